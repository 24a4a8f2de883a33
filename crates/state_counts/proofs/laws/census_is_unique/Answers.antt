use Rattle.state_counts.proofs.Unique.{census_is_unique}
use Rattle.state_counts.proofs.laws.census_is_unique.Goals as goal

pub returns : goal.returns
returns c = census_is_unique
