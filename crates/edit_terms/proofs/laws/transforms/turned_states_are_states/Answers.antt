use Rattle.edit_terms.proofs.laws.transforms.turned_states_are_states.Goals as goal
use Rattle.edit_terms.proofs.TurnLemmas.{transformed_kept}
use Rattle.edit_terms.proofs.StateTurns.{state_turning}

pub returns : goal.returns
returns c = transformed_kept state_turning
