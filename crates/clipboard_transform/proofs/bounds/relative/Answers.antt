use Rattle.std.proofs.Common.{rules}
use Rattle.clipboard_transform.proofs.Corners.{same_position}
use Rattle.clipboard_transform.proofs.bounds.relative.Goals as goal

-- src/bounds.rt:56:1
pub returns-clause-value : goal.returns-clause-value
returns-clause-value c = same_position _ _ (search rules) (search rules) (search rules)
