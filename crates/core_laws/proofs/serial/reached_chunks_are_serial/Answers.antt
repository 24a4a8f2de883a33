use Rattle.core_laws.proofs.Reached.{reaches_serial_cores}
use Rattle.core_laws.proofs.serial.reached_chunks_are_serial.Goals as goal

pub returns : goal.returns
returns c = reaches_serial_cores
