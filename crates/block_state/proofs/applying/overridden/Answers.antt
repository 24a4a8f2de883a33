use Rattle.std.proofs.Common.{◌≡◌, false, length, sym, ap, ◌∙◌, subst, arith, IfOk}
use Rattle.std.specs.Prelude.{nat_le}
use Rattle.std.proofs.lemmas.Bool.{cond-false}
use Rattle.edit_terms.specs.StateText.{State, is_properties, with_properties}
use Rattle.edit_terms.specs.Pattern.{overridden}
use Rattle.block_state.proofs.ApplyingLemmas.{is_properties-with}
use Rattle.block_state.proofs.applying.overridden.Goals as goal

pub returns-in-None : goal.returns-in-None
returns-in-None c =
    let all : c.in_ok-all.all.items ≡ with_properties c.args.old.now.properties c.args.properties.now = grind arith in
    let many : nat_le (length (with_properties c.args.old.now.properties c.args.properties.now)) 16 ≡ false =
    sym (is_properties-with c.args.old.now.properties c.args.properties.now c.well_formed-2.ensures.formed c.well_formed-4.ensures) ∙ ap is_properties (sym all) ∙ c.in-None.ensures in
    let stays : c.args.old.now ≡ overridden c.args.old.now c.args.named.now.name c.args.properties.now = sym (cond-false _ _ _ many) in
    subst (λ (s : State). IfOk c.copy.result (λ x. x ≡ s)) stays c.copy.ensures
