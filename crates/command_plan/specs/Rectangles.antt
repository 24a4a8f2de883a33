-- Rectangles of chunks among the chunks of a world's box.
use Rattle.std.specs.Prelude.{ℕ, ◌*◌, ◌/◌, ◌%◌, ◌<◌, ◌≤◌, nat_le, nat_lt, Bool, ◌&&◌, ◌||◌, List, filter}
use Rattle.std.specs.List.{range_with_len}
use Rattle.edit_terms.specs.Area.{Area, columns}
use Rattle.command_plan.specs.declared.rectangle.ChunkGrid.{ChunkGrid}
use Rattle.command_plan.specs.declared.rectangle.Run.{Run}
use Rattle.command_plan.specs.declared.rectangle.Rectangle.{Rectangle}
use Rattle.command_plan.specs.declared.rectangle.ChunkSet.{ChunkSet}

-- the columns of chunks of a box
abbrev pub chunk_grid_of : Area → ChunkGrid
chunk_grid_of area = record { columns = columns area.least.x area.width; rows = columns area.least.z area.length }

-- the column is one of the run
abbrev pub is_among : Run → ℕ → Bool
is_among run n = nat_le run.from n && nat_lt n run.to

-- the chunk of this index belongs to the rectangle, where a row has so many chunks
abbrev pub covers : ℕ → Rectangle → ℕ → Bool
covers columns r chunk = is_among r.x (chunk % columns) && is_among r.z (chunk / columns)

-- it belongs to one of the two
abbrev pub is_in_set : ℕ → ChunkSet → ℕ → Bool
is_in_set columns s chunk = covers columns s.first chunk || covers columns s.second chunk

-- there are columns, and no more than of a world's box
pub record IsChunkGrid (grid : ChunkGrid) : Type 0 where
  pub wide : 0 < grid.columns
  pub long : 0 < grid.rows
  pub few_columns : grid.columns ≤ 4097
  pub few_rows : grid.rows ≤ 4097

-- the run lies among so many columns
pub record IsRunWithin (run : Run) (whole : ℕ) : Type 0 where
  pub order : run.from ≤ run.to
  pub within : run.to ≤ whole

pub record IsInside (grid : ChunkGrid) (r : Rectangle) : Type 0 where
  pub x : IsRunWithin r.x grid.columns
  pub z : IsRunWithin r.z grid.rows

pub record IsSetInside (grid : ChunkGrid) (s : ChunkSet) : Type 0 where
  pub first : IsInside grid s.first
  pub second : IsInside grid s.second

-- the rectangle has the columns of the other
pub record IsPartOf (r whole : Rectangle) : Type 0 where
  pub x_from : whole.x.from ≤ r.x.from
  pub x_to : r.x.to ≤ whole.x.to
  pub z_from : whole.z.from ≤ r.z.from
  pub z_to : r.z.to ≤ whole.z.to

-- the chunks of the box that pass a test, by rising index
abbrev pub chunks_with : ChunkGrid → (ℕ → Bool) → List ℕ
chunks_with grid test = filter test (range_with_len 0 (grid.columns * grid.rows))

-- the chunks of two rectangles
abbrev pub chunks_over : ChunkGrid → ChunkSet → List ℕ
chunks_over grid s = chunks_with grid (is_in_set grid.columns s)
