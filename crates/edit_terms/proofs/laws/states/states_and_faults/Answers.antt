use Rattle.edit_terms.proofs.laws.states.states_and_faults.Goals as goal
use Rattle.edit_terms.proofs.StateTextLemmas.{state_read, no_fault}

pub returns-clause-state : goal.returns-clause-state
returns-clause-state c = state_read

pub returns-clause-fault : goal.returns-clause-fault
returns-clause-fault c = no_fault
