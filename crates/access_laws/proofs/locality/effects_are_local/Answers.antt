use Rattle.access_laws.proofs.Stays.{changes_lie}
use Rattle.access_laws.proofs.locality.effects_are_local.Goals as goal

pub returns-clause-changes : goal.returns-clause-changes
returns-clause-changes c = changes_lie
