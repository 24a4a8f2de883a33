use Rattle.edit_terms.proofs.RegionLemmas.{root_is}
use Rattle.edit_terms.proofs.laws.regions.root_is_greatest.Goals as goal

pub returns : goal.returns
returns c n below = root_is n below
