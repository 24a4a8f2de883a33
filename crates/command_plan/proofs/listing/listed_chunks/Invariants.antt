use Rattle.std.proofs.Common.{◌≡◌, ◌*◌}
use Rattle.std.specs.Prelude.{filter}
use Rattle.std.specs.List.{range_with_len}
use Rattle.command_plan.specs.Rectangles.{is_in_set}
use Rattle.command_plan.proofs.listing.listed_chunks.Given as goal

-- the rows passed
abbrev pub invariant-loop-row : goal.invariant-loop-row
invariant-loop-row l = l.chunks.items ≡ filter (is_in_set l.grid.columns l.s) (range_with_len 0 (l.row * l.grid.columns))
