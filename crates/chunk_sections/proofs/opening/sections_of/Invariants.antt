use Rattle.std.proofs.Common.{◌≡◌, map}
use Rattle.std.specs.List.{range_with_len}
use Rattle.chunk_sections.specs.Cut.{cut_of, section_start, section_size}
use Rattle.chunk_sections.specs.Column.{grid_states}
use Rattle.chunk_sections.proofs.opening.sections_of.Given as goal

abbrev pub invariant-loop-number : goal.invariant-loop-number
invariant-loop-number l = l.sections.items ≡ map (λ s. grid_states l.grid l.part (section_start (cut_of l.part) s) (section_size (cut_of l.part) s)) (range_with_len 0 l.number)
