use Rattle.plain_effects.proofs.ExtentLemmas.{all_framed}
use Rattle.plain_effects.proofs.changes.filled_extent.Goals as goal

pub returns : goal.returns
returns c = all_framed c.args.region.now c.frame_of.result c.region_fits.ensures c.frame_of.ensures.value
