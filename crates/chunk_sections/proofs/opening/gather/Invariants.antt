use Rattle.std.proofs.Common.{◌≡◌, ◌<◌, All, length, map}
use Rattle.std.specs.List.{range_with_len}
use Rattle.edit_terms.specs.Area.{position_of}
use Rattle.chunk_sections.specs.Column.{kind_at}
use Rattle.chunk_sections.proofs.opening.gather.Given as goal

abbrev pub invariant-loop-further : goal.invariant-loop-further
invariant-loop-further l = record {
  gathered : l.kinds.items ≡ map (λ i. kind_at l.grid (position_of l.part i)) (range_with_len l.first l.further);
  below : All (λ kind. kind < length l.grid.kinds) l.kinds.items;
}
