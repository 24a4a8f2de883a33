use Rattle.std.proofs.Common.{◌≡◌, ◌-◌, ◌++◌}
use Rattle.std.specs.List.{range_with_len}
use Rattle.region_shapes.proofs.chunk_index.push_run.Given as goal

abbrev pub invariant-loop-index : goal.invariant-loop-index
invariant-loop-index l = l.chunks.items ≡ l.initial.chunks.items ++ range_with_len l.first (l.index - l.first)
