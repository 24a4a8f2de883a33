use Rattle.core_laws.proofs.Truth.{leaves_final_world}
use Rattle.core_laws.proofs.settled.finished_chunks_are_the_final_world.Goals as goal

pub returns : goal.returns
returns c = λ case limits fits whole keeps core serial. leaves_final_world case limits fits keeps core serial.chunks whole
