-- Captured cells that are kept as runs, and the search of runs for a position.
use Rattle.std.specs.Prelude.{◌≡◌, ℕ, ◌+◌, ◌<◌, ◌≤◌, if◌then◌else◌, List, map, Some, slice_get}
use Rattle.std.specs.List.{range_with_len}
use Rattle.edit_terms.specs.declared.pos.Pos.{Pos}
use Rattle.edit_terms.specs.Area.{Area, holds, index_of, position_of, volume}
use Rattle.edit_terms.specs.World.{BlockContent}
use Rattle.edit_terms.specs.Chunk.{chunk_box, place_in_chunk}
use Rattle.change_set.specs.declared.run.Run.{Run}

-- What contracts see of cells that are kept as runs: the box of their world, and the cells in order.
pub record BoxCells : Type 0 where
  pub area : Area
  pub cells : List (Pos × BlockContent)

-- the positions of cells
abbrev pub cell_positions : List (Pos × BlockContent) → List Pos
cell_positions cells = map (λ c. c.0) cells

-- so many cells of a chunk's part in index order, from one on, that all have one content
abbrev pub stretch_cells : Area → Pos → ℕ → BlockContent → List (Pos × BlockContent)
stretch_cells a first count content = map (λ place. (position_of (chunk_box a first) place, content)) (range_with_len (place_in_chunk a first) count)

-- the place of a position in the box, and the box's end where it isn't of the box
abbrev pub place_or_end : Area → Pos → ℕ
place_or_end a p = if holds a p then index_of a p else volume a

-- the run at a place among the runs, if there is one, starts behind a place of the box
abbrev pub StartsBehind : Area → List Run → ℕ → ℕ → Type 0
StartsBehind a runs k place = (run : Run) → slice_get runs k ≡ Some run → place < index_of a run.first

-- the run is the last one that doesn't start behind a place of the box
pub record IsLastFrom (a : Area) (runs : List Run) (place : ℕ) (run : Run) : Type 0 where
  pub number : ℕ
  pub is : slice_get runs number ≡ Some run
  pub from : index_of a run.first ≤ place
  pub next : StartsBehind a runs (number + 1) place
