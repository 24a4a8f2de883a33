use Rattle.std.proofs.Common.{◌≡◌, sym, ◌∙◌, subst, IfOk}
use Rattle.edit_terms.specs.StateText.{State}
use Rattle.edit_terms.specs.Same.{state_decides}
use Rattle.block_state.proofs.restating.restated.Goals as goal

pub returns-then-is_state_of : goal.returns-then-is_state_of
returns-then-is_state_of c =
    let same = (state_decides c.args.old.now (record { name = c.args.name.now; properties = c.args.properties })).0 (sym c.is_state_of.ensures ∙ c.if-is_state_of.true) in
    subst (λ (s : State). IfOk c.copy.result (λ x. x ≡ s)) same c.copy.ensures
