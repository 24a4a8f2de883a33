use Rattle.std.proofs.Common.{◌≡◌, ◌-◌}
use Rattle.region_shapes.specs.Chunks.{chunk_rows}
use Rattle.region_shapes.proofs.chunk_index.chunk_rows.Given as goal

abbrev pub invariant-loop-row : goal.invariant-loop-row
invariant-loop-row l = l.chunks.items ≡ chunk_rows l.x.first l.x.count l.x.whole l.z.first (l.row - l.z.first)
