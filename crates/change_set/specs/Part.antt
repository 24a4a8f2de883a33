-- The captured cells of a chunk.
use Rattle.std.specs.Prelude.{ℕ, List, ◌++◌}
use Rattle.edit_terms.specs.declared.pos.Pos.{Pos}
use Rattle.edit_terms.specs.declared.clip.Source.{Source}
use Rattle.edit_terms.specs.Area.{Area}
use Rattle.edit_terms.specs.World.{BlockContent}

-- What contracts see of a part: which command captured it, in which chunk, and its cells in order.
pub record PartCells : Type 0 where
  pub source : Source
  pub chunk : ℕ
  pub cells : List (Pos × BlockContent)

-- What contracts see of a part under construction: the box of the world, and the part so far.
pub record PartSoFar : Type 0 where
  pub area : Area
  pub part : PartCells

-- the part with more cells behind its own
abbrev pub with_cells : PartCells → List (Pos × BlockContent) → PartCells
with_cells part more = record part { cells = part.cells ++ more }
