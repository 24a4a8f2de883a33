use Rattle.nbt_tags.proofs.Spelled.{written-spells, written_row-spells}
use Rattle.nbt_tags.proofs.TreeReads.{Spells-prefix, SpellsRow-one}
use Rattle.nbt_tags.proofs.laws.round_trip.Goals as goal

pub returns-clause-prefix : goal.returns-clause-prefix
returns-clause-prefix c = Spells-prefix

pub returns-clause-spelled : goal.returns-clause-spelled
returns-clause-spelled c = written-spells

pub returns-clause-one_row : goal.returns-clause-one_row
returns-clause-one_row c = SpellsRow-one

pub returns-clause-row_spelled : goal.returns-clause-row_spelled
returns-clause-row_spelled c = written_row-spells
