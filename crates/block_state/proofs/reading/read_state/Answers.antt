use Rattle.std.proofs.Common.{◌≡◌, true, ap, arith, rules}
use Rattle.std.specs.Result.{result_ok}
use Rattle.edit_terms.specs.StateText.{is_properties}
use Rattle.block_state.proofs.reading.read_state.Goals as goal

pub unwrap-properties-requires : goal.unwrap-properties-requires
unwrap-properties-requires c =
    let is = (c.states_and_faults.ensures.state c.args.text.now _).0 (ap result_ok c.in_ok-name.ensures) in
    let formed : is_properties c.in_ok-sorted.sorted.items ≡ true = grind (arith, is.valid.formed) in search (rules, formed)
