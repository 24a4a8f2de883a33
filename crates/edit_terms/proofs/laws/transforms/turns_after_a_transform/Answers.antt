use Rattle.edit_terms.proofs.laws.transforms.turns_after_a_transform.Goals as goal
use Rattle.edit_terms.proofs.TurnLemmas.{turned_after}
use Rattle.edit_terms.proofs.PositionTurns.{position_turning}
use Rattle.edit_terms.proofs.StateTurns.{state_turning}

pub returns-clause-positions : goal.returns-clause-positions
returns-clause-positions c = λ t quarters r. turned_after position_turning t quarters r tt

pub returns-clause-states : goal.returns-clause-states
returns-clause-states c = turned_after state_turning
