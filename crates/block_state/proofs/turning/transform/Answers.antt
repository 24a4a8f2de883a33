use Rattle.std.proofs.Common.{rules, ◌≡◌, true, sym, ◌∙◌, subst, arith, IfOk}
use Rattle.edit_terms.specs.StateText.{State, is_properties}
use Rattle.edit_terms.specs.Transform.{turned_state}
use Rattle.block_state.specs.Turn.{turned_properties}
use Rattle.block_state.proofs.TurningLemmas.{turned_state-properties, formed_turned}
use Rattle.block_state.proofs.turning.transform.Goals as goal

pub unwrap-properties-requires : goal.unwrap-properties-requires
unwrap-properties-requires c =
    let formed = formed_turned c.args.t.now c.args.state.now (c.turned_states_are_states.ensures c.args.t.now c.args.state.now c.well_formed-2.ensures) in
    let given : is_properties c.in_ok-turned.turned.items ≡ true = grind (arith, formed) in
    search (rules, given)

pub returns : goal.returns
returns c =
    let properties : c.unwrap-properties.result ≡ turned_properties c.args.t.now c.args.state.now.properties = grind arith in
    let whole : record { name = c.name.result.now; properties = c.unwrap-properties.result } ≡ turned_state c.args.t.now c.args.state.now =
    (λ i. record { name = c.name.ensures i; properties = properties i }) ∙ sym (turned_state-properties c.args.t.now c.args.state.now) in
    subst (λ (s : State). IfOk c.restated.result (λ x. x ≡ s)) whole c.restated.ensures
