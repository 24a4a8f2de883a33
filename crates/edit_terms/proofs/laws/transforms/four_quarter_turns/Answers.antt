use Rattle.edit_terms.proofs.laws.transforms.four_quarter_turns.Goals as goal
use Rattle.edit_terms.proofs.PositionTurns.{position_turning}
use Rattle.edit_terms.proofs.StateTurns.{state_turning}

pub returns-clause-positions : goal.returns-clause-positions
returns-clause-positions c = λ r. position_turning.four r tt

pub returns-clause-states : goal.returns-clause-states
returns-clause-states c = state_turning.four
