use Rattle.std.proofs.Common.{◌≡◌, take, filter}
use Rattle.change_set.specs.Changes.{is_change}
use Rattle.change_set.proofs.changes.Changes.between.Given as goal

abbrev pub invariant-loop-cell : goal.invariant-loop-cell
invariant-loop-cell l = l.changes ≡ record { area = l.area; list = filter is_change (take l.cell-index l.cells) }
