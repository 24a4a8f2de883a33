use Rattle.core_laws.proofs.Truth.{part_of_settled, holds_truth}
use Rattle.core_laws.proofs.settled.reached_chunks_hold_truth.Goals as goal

pub returns-clause-blocks : goal.returns-clause-blocks
returns-clause-blocks c = λ case limits fits keeps core serial. part_of_settled case limits fits keeps core serial.chunks

pub returns-clause-kept : goal.returns-clause-kept
returns-clause-kept c = λ case limits fits keeps core serial. holds_truth case limits fits keeps core serial.chunks
