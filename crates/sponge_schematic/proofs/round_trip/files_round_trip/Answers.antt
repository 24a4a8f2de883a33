use Rattle.sponge_schematic.proofs.RoundTrip.{schematic_of-schematic_bytes, bare_beside, read_beside, element_of_none, element_of_some}
use Rattle.sponge_schematic.proofs.round_trip.files_round_trip.Goals as goal

pub returns-clause-again : goal.returns-clause-again
returns-clause-again c = schematic_of-schematic_bytes

pub returns-clause-bare : goal.returns-clause-bare
returns-clause-bare c = bare_beside

pub returns-clause-read : goal.returns-clause-read
returns-clause-read c = read_beside

pub returns-clause-empty : goal.returns-clause-empty
returns-clause-empty c = element_of_none

pub returns-clause-entries : goal.returns-clause-entries
returns-clause-entries c = element_of_some
