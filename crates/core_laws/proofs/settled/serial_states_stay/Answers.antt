use Rattle.core_laws.proofs.Reached.{serial-append}
use Rattle.core_laws.proofs.settled.serial_states_stay.Goals as goal

pub returns : goal.returns
returns c = λ case keeps order more chunk read written. serial-append case keeps order more chunk read written
