use Rattle.edit_terms.proofs.laws.boxes.index_and_position.Goals as goal
use Rattle.edit_terms.proofs.AreaLemmas.{block_at_place}

pub returns-clause-index : goal.returns-clause-index
returns-clause-index c = block_at_place
