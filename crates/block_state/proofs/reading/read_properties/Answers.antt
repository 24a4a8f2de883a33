use Rattle.std.proofs.Common.{◌≡◌, true, ◌++◌, ap, arith, rules}
use Rattle.std.specs.Prelude.{codes}
use Rattle.std.specs.Result.{result_ok}
use Rattle.edit_terms.specs.StateText.{is_properties}
use Rattle.block_state.proofs.ReadingLemmas.{state_of_listed}
use Rattle.block_state.proofs.reading.read_properties.Goals as goal

pub unwrap-requires : goal.unwrap-requires
unwrap-requires c =
    let is = (c.states_and_faults.ensures.state (codes "a[" ++ c.args.rest.now) _).0 (ap result_ok (state_of_listed c.args.rest.now c.in_ok-listed.listed.items c.in_ok-listed.ensures)) in
    let formed : is_properties c.in_ok-sorted.sorted.items ≡ true = grind (arith, is.valid.formed) in search (rules, formed)
