use Rattle.run_terms.proofs.SessionLimitLemmas.{step_keeps_limits}
use Rattle.run_terms.proofs.session_laws.steps_keep_limits.Goals as goal

pub returns : goal.returns
returns c = step_keeps_limits
