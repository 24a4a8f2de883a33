use Rattle.std.proofs.Common.{subst}
use Rattle.sponge_schematic.specs.Rows.{IsKept}
use Rattle.sponge_schematic.proofs.KeptLemmas.{kept_had}
use Rattle.sponge_schematic.proofs.carried.Carried.well_formed.Goals as goal

pub returns : goal.returns
returns c = subst IsKept c.self.view_is (kept_had _ c.self.invariant)
