use Rattle.plain_terms.specs.Copies.{reach}
use Rattle.plain_effects.proofs.relative.reach_around.Goals as goal

pub returns : goal.returns
returns c = c.placed_extent.ensures reach c.reach.ensures
