use Rattle.command_plan.proofs.ChunkSetLemmas.{set_of_nothing, set_of_none}
use Rattle.command_plan.proofs.chunk_set.nothing.Goals as goal

pub returns-clause-nothing : goal.returns-clause-nothing
returns-clause-nothing c = set_of_nothing

pub returns-clause-apart : goal.returns-clause-apart
returns-clause-apart c = set_of_none
