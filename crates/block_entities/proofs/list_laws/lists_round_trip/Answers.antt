use Rattle.std.proofs.Common.{◌++◌}
use Rattle.block_entities.specs.Spreading.{entries_of}
use Rattle.block_entities.proofs.Again.{entity_at-entries_of, loose_of-entries_of, list_of-items}
use Rattle.block_entities.proofs.list_laws.lists_round_trip.Goals as goal

pub returns-clause-entities : goal.returns-clause-entities
returns-clause-entities c = entity_at-entries_of

pub returns-clause-loose : goal.returns-clause-loose
returns-clause-loose c = loose_of-entries_of

pub returns-clause-list : goal.returns-clause-list
returns-clause-list c = λ w loose element. list_of-items element (entries_of w ++ loose)
