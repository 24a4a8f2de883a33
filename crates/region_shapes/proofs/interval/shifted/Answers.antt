use Rattle.std.proofs.Common.{arith}
use Rattle.std.proofs.lemmas.Int.{ints}
use Rattle.region_shapes.proofs.ExtentLemmas.{same_interval}
use Rattle.region_shapes.proofs.interval.shifted.Goals as goal

pub returns : goal.returns
returns c =
    let near = c.requires.near in
    same_interval _ _ (grind (arith, ints)) (grind (arith, ints))
