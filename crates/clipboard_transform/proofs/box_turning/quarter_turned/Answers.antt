use Rattle.std.proofs.Common.{rules}
use Rattle.clipboard_transform.proofs.Corners.{same_position, same_box}
use Rattle.clipboard_transform.proofs.box_turning.quarter_turned.Goals as goal

-- src/box_turning.rt:81:1
pub returns-clause-value : goal.returns-clause-value
returns-clause-value c = same_box _ _ (same_position _ _ (search rules) (search rules) (search rules)) (same_position _ _ (search rules) (search rules) (search rules))
