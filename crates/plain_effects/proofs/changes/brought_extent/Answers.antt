use Rattle.plain_effects.proofs.ExtentLemmas.{all_brought}
use Rattle.plain_effects.proofs.changes.brought_extent.Goals as goal

pub returns : goal.returns
returns c = all_brought c.args.from.now c.args.to c.frame_of_selection.result c.strip.result c.selection_fits.ensures c.frame_of_selection.ensures.value c.strip.ensures
