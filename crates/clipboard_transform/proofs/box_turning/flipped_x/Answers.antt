use Rattle.std.proofs.Common.{rules, ◌∙◌}
use Rattle.edit_terms.specs.declared.direction.Direction.TheVariants.{East}
use Rattle.clipboard_transform.specs.Bounds.{flipped_box}
use Rattle.clipboard_transform.proofs.Corners.{same_position, same_box, when_true}
use Rattle.clipboard_transform.proofs.box_turning.flipped_x.Goals as goal

-- src/box_turning.rt:21:1
pub returns-clause-value : goal.returns-clause-value
returns-clause-value c = same_box _ (flipped_box East c.args.b.now) (same_position _ _ (search rules) (search rules) (search rules)) (same_position _ _ (search rules) (search rules) (search rules)) ∙ when_true c.args.flips _ _ c.if-not-flips.false
