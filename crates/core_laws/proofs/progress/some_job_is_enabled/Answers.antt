use Rattle.core_laws.proofs.DeadEnds.{no_dead_end}
use Rattle.core_laws.proofs.progress.some_job_is_enabled.Goals as goal

pub returns : goal.returns
returns c = no_dead_end
