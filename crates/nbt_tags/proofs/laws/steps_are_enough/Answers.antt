use Rattle.nbt_tags.proofs.RowSteps.{whole_row_at-steps}
use Rattle.nbt_tags.proofs.laws.steps_are_enough.Goals as goal

pub returns : goal.returns
returns c = whole_row_at-steps
