use Rattle.std.proofs.Common.{rules, ◌≡◌, pos, ◌+ℤ◌}
use Rattle.std.specs.Int.{int_min}
use Rattle.edit_terms.specs.Frame.{count_between}
use Rattle.region_shapes.proofs.ExtentLemmas.{same_interval}
use Rattle.region_shapes.proofs.interval.between.Goals as goal

pub returns-clause-value : goal.returns-clause-value
returns-clause-value c =
    let a = c.args.first in let b = c.args.second in
    let from : c.ordered.result.from ≡ int_min a b = search rules in
    let to : c.ordered.result.to ≡ int_min a b +ℤ pos (count_between a b) = search rules in
    same_interval _ _ from to
