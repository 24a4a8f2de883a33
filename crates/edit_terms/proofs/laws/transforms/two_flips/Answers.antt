use Rattle.edit_terms.proofs.laws.transforms.two_flips.Goals as goal
use Rattle.edit_terms.proofs.PositionTurns.{position_turning}
use Rattle.edit_terms.proofs.StateTurns.{state_turning}

pub returns-clause-positions : goal.returns-clause-positions
returns-clause-positions c = λ to r. position_turning.twice to r tt

pub returns-clause-states : goal.returns-clause-states
returns-clause-states c = state_turning.twice
