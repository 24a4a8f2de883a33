use Rattle.std.proofs.Common.{◌≡◌, true, arith, subst, sym, rules}
use Rattle.edit_terms.specs.declared.pos.Pos.{Pos}
use Rattle.edit_terms.specs.Area.{Area, IsBlockAt, position_of, is_world_box}
use Rattle.edit_terms.proofs.AreaLemmas.{block_at_place}
use Rattle.edit_terms.proofs.world_box.WorldBox.position.Goals as goal

pub returns-clause-inverse : goal.returns-clause-inverse
returns-clause-inverse c =
    let made : c.moved.result ≡ position_of c.args.self.now c.args.index = search rules in
    let fits = subst (λ (a : Area). is_world_box a ≡ true) c.self.view_is c.self.invariant in
    subst (λ (p : Pos). IsBlockAt c.args.self.now c.args.index p) (sym made) (block_at_place c.args.self.now c.args.index fits (omega arith))
