use Rattle.std.proofs.Common.{rules}
use Rattle.edit_terms.specs.StateText.{opening, cut_at, listed_in, state_reading}
use Rattle.block_state.proofs.ReadingLemmas.{fault_on, listed_fault}
use Rattle.block_state.proofs.reading.read_parts.Goals as goal

pub returns-in_err-listed : goal.returns-in_err-listed
returns-in_err-listed c =
    let on = listed_fault c.args.text.now c.in-Some.name.now (cut_at opening c.in-Some.rest.now) c.in_ok-name.name c.in-Some.ensures.cases c.in_ok-name.ensures in
    let fault = fault_on (listed_in (cut_at opening c.in-Some.rest.now)) (state_reading c.args.text.now) c.in_err-listed.field-0.0 on c.in_err-listed.ensures in search (rules, fault)
