use Rattle.std.proofs.Common.{◌≡◌, ◌+◌, ◌-◌, ◌*◌, ◌++◌}
use Rattle.std.specs.Prelude.{filter}
use Rattle.std.specs.List.{range_with_len}
use Rattle.command_plan.specs.Rectangles.{is_in_set}
use Rattle.command_plan.proofs.listing.push_row.Given as goal

-- the columns passed
abbrev pub invariant-loop-column : goal.invariant-loop-column
invariant-loop-column l = l.chunks.items ≡ l.initial.chunks.items ++ filter (is_in_set l.grid.columns l.s) (range_with_len (l.columns.from + l.row * l.grid.columns) (l.column - l.columns.from))
