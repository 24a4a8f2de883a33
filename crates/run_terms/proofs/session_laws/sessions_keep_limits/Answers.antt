use Rattle.run_terms.proofs.SessionLimitLemmas.{session_keeps_limits}
use Rattle.run_terms.proofs.session_laws.sessions_keep_limits.Goals as goal

pub returns : goal.returns
returns c = session_keeps_limits
