-- A box cut by the box of a world, by its columns of chunks.
use Rattle.std.specs.Prelude.{◌≡◌, ℕ, ◌+◌, ◌<◌, false, List, Option, MatchOption}
use Rattle.std.specs.List.{list_any}
use Rattle.edit_terms.specs.Area.{Area, offset, sixteenth, columns}
use Rattle.run_terms.specs.Access.{is_chunk_of_box}
use Rattle.region_shapes.specs.declared.interval.Interval.{Interval}
use Rattle.region_shapes.specs.Interval.{common, size}
use Rattle.command_plan.specs.declared.rectangle.Run.{Run}
use Rattle.command_plan.specs.declared.rectangle.Rectangle.{Rectangle}
use Rattle.command_plan.specs.declared.rectangle.ChunkSet.{ChunkSet}
use Rattle.command_plan.specs.Rectangles.{chunk_grid_of, covers, is_in_set, IsInside, IsSetInside}

-- the columns of what an interval has in common with a box's own, counted from the box's
pub record IsRunOf (r : Run) (shared own : Interval) : Type 0 where
  pub some : 0 < size shared
  pub from : r.from ≡ offset (sixteenth own.from) (sixteenth shared.from)
  pub to : r.to ≡ offset (sixteenth own.from) (sixteenth shared.from) + columns shared.from (size shared)

abbrev pub IsCutRun : Option Run → Interval → Interval → Type 0
IsCutRun run i own = MatchOption run (size (common i own) ≡ 0) (λ r. IsRunOf r (common i own) own)

-- the rectangle has exactly the chunks in which a block of one of the boxes lies
pub record IsCover (area : Area) (boxes : List Area) (r : Rectangle) : Type 0 where
  pub inside : IsInside (chunk_grid_of area) r
  pub exact : (chunk : ℕ) → list_any (is_chunk_of_box area chunk) boxes ≡ covers (columns area.least.x area.width) r chunk

-- no block of the boxes lies in a chunk
abbrev pub IsApart : Area → List Area → Type 0
IsApart area boxes = (chunk : ℕ) → list_any (is_chunk_of_box area chunk) boxes ≡ false

abbrev pub IsCutOf : Area → List Area → Option Rectangle → Type 0
IsCutOf area boxes cut = MatchOption cut (IsApart area boxes) (IsCover area boxes)

-- the two rectangles have exactly the chunks in which a block of one of the boxes lies
pub record IsChunkSetOf (area : Area) (boxes : List Area) (s : ChunkSet) : Type 0 where
  pub inside : IsSetInside (chunk_grid_of area) s
  pub exact : (chunk : ℕ) → list_any (is_chunk_of_box area chunk) boxes ≡ is_in_set (columns area.least.x area.width) s chunk
