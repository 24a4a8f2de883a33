use Rattle.block_entities.proofs.GridEntities.{AreFileEntities-world_of, entity_count-world_of}
use Rattle.block_entities.proofs.grid_laws.entities_of_grids.Goals as goal

pub returns-clause-good : goal.returns-clause-good
returns-clause-good c = AreFileEntities-world_of

pub returns-clause-count : goal.returns-clause-count
returns-clause-count c = λ g box grid. entity_count-world_of g box grid.rising
