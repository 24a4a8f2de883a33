use Rattle.std.proofs.Common.{ap, sym, ◌∙◌, Bool, cond, Some, None}
use Rattle.edit_terms.specs.declared.pos.Pos.{Pos}
use Rattle.edit_terms.specs.Area.{holds, index_of}
use Rattle.edit_terms.specs.Clipboard.{placed_at}
use Rattle.block_entities.proofs.entry.place_from_corner.Goals as goal

pub returns-in-None-clause-place : goal.returns-in-None-clause-place
returns-in-None-clause-place c = let out = c.in-None.ensures c.args.area.now c.well_formed-2.ensures in
    let test : Pos → Bool = λ least. holds c.args.area.now (placed_at least c.args.local.now) in
    let away = ap test (sym c.least.ensures) ∙ out in
    ap (λ (b : Bool). cond b (Some (index_of c.args.area.now (placed_at c.args.area.now.least c.args.local.now))) None) (sym away)
