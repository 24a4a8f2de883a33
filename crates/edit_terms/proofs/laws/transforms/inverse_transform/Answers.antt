use Rattle.edit_terms.proofs.laws.transforms.inverse_transform.Goals as goal
use Rattle.edit_terms.proofs.TurnLemmas.{undone-transformed, transformed-undone}
use Rattle.edit_terms.proofs.PositionTurns.{position_turning}

pub returns-clause-undoes : goal.returns-clause-undoes
returns-clause-undoes c = λ t r. undone-transformed position_turning t r tt

pub returns-clause-undone : goal.returns-clause-undone
returns-clause-undone c = λ t r. transformed-undone position_turning t r tt
