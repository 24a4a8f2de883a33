use Rattle.edit_terms.proofs.laws.states.one_state_a_text.Goals as goal
use Rattle.edit_terms.proofs.StateTextLemmas.{one_state}

pub returns : goal.returns
returns c = one_state
