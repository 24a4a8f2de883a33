use Rattle.edit_terms.proofs.laws.transforms.flip_along_z.Goals as goal
use Rattle.edit_terms.proofs.PositionTurns.{position_turning}
use Rattle.edit_terms.proofs.StateTurns.{state_turning}

pub returns-clause-positions : goal.returns-clause-positions
returns-clause-positions c = λ r. position_turning.along_z r tt

pub returns-clause-states : goal.returns-clause-states
returns-clause-states c = state_turning.along_z
