-- Columns: what stands at the blocks of one chunk of a world.
use Rattle.std.specs.Prelude.{◌≡◌, ℕ, true, ◌-◌, ◌/◌, ◌%◌, ◌<◌, ◌≤◌, ℤ, pos, ◌+ℤ◌, ◌*ℤ◌, List, [], map, length, get_or}
use Rattle.std.specs.Int.{int_max}
use Rattle.std.specs.List.{range_with_len, sum_by}
use Rattle.std.specs.Arc.{arc_value}
use Rattle.std.specs.declared.sync.Arc.{Arc}
use Rattle.std.specs.declared.alloc.Global.{Global}
use Rattle.edit_terms.specs.declared.pos.Pos.{Pos}
use Rattle.edit_terms.specs.Area.{Area, volume, holds, position_of, index_of, sixteenth, columns, chunks}
use Rattle.edit_terms.specs.Chunk.{chunk_box}
use Rattle.edit_terms.specs.StateText.{State, air}
use Rattle.edit_terms.specs.World.{EntityTags, BlockContent, World, air_content, content_at, state_at}
use Rattle.edit_terms.specs.Grid.{GridParts, world_of, entity_of}
use Rattle.chunk_sections.specs.declared.cut.Cut.{Cut}
use Rattle.chunk_sections.specs.Cut.{cut_of, section_count, section_start, section_size, section_of}
use Rattle.chunk_sections.specs.Section.{section_words}

-- where the column of 16 starts that comes so many behind the one of a coordinate
abbrev pub column_start_at : ℤ → ℕ → ℤ
column_start_at low behind = (sixteenth low +ℤ pos behind) *ℤ pos 16

-- the first block of a chunk of a box: the chunks are numbered from the least corner's, x faster than z
abbrev pub first_block : Area → ℕ → Pos
first_block a chunk = record {
  x = int_max a.least.x (column_start_at a.least.x (chunk % columns a.least.x a.width));
  y = a.least.y;
  z = int_max a.least.z (column_start_at a.least.z (chunk / columns a.least.x a.width));
}

-- the blocks of a chunk of a box, which are a box themselves
abbrev pub column_box : Area → ℕ → Area
column_box a chunk = chunk_box a (first_block a chunk)

-- what stands at each block of a smaller box of a world, in the index order of the smaller box
abbrev pub part_contents : World → Area → List BlockContent
part_contents w part = map (λ i. content_at w (position_of part i)) (range_with_len 0 (volume part))

-- What contracts see of a column: the box of its world, the number of its chunk, and what stands at the chunk's blocks
-- in index order.
pub record ColumnContents : Type 0 where
  pub area : Area
  pub chunk : ℕ
  pub contents : List BlockContent

-- the blocks of a column
abbrev pub blocks_of : ColumnContents → Area
blocks_of c = column_box c.area c.chunk

-- a column as a world of its own
abbrev pub column_world : ColumnContents → World
column_world c = record { area = blocks_of c; contents = c.contents }

-- a chunk's part of a world
abbrev pub column_of : World → ℕ → ColumnContents
column_of w chunk = record { area = w.area; chunk = chunk; contents = part_contents w (column_box w.area chunk) }

-- the blocks of a column with what stands there, in index order
abbrev pub column_cells : ColumnContents → List (Pos × BlockContent)
column_cells c = map (λ i. (position_of (blocks_of c) i, get_or c.contents i air_content)) (range_with_len 0 (volume (blocks_of c)))

-- the states of a section's blocks, counted from the lowest section
abbrev pub section_states : ColumnContents → ℕ → List State
section_states c s =
    map (λ i. (get_or c.contents i air_content).state)
    (range_with_len (section_start (cut_of (blocks_of c)) s) (section_size (cut_of (blocks_of c)) s))

-- how many words all its sections have
abbrev pub column_words : ColumnContents → ℕ
column_words c = sum_by (λ states. length (section_words states)) (map (section_states c) (range_with_len 0 (section_count (cut_of (blocks_of c)))))

-- ---- how a column keeps its contents

-- entities by position, through what shares them
abbrev pub shown_entity : Pos × Arc EntityTags Global → Pos × EntityTags
shown_entity e = (e.0, arc_value e.1)

abbrev pub shown_entities : List (Pos × Arc EntityTags Global) → List (Pos × EntityTags)
shown_entities es = map shown_entity es

-- the state at a place of the box's list, from the states of each section
abbrev pub state_of_place : Cut → List (List State) → ℕ → State
state_of_place c sections i = get_or (get_or sections (section_of c i) []) (i - section_start c (section_of c i)) air

abbrev pub content_of_place : Area → List (List State) → List (Pos × EntityTags) → ℕ → BlockContent
content_of_place part sections entities i = record { state = state_of_place (cut_of part) sections i; entity = entity_of entities (position_of part i) }

abbrev pub kept_contents : Area → List (List State) → List (Pos × EntityTags) → List BlockContent
kept_contents part sections entities = map (content_of_place part sections entities) (range_with_len 0 (volume part))

-- the layers of the box are as small as a chunk, and each section has its blocks
pub record IsCutUp (part : Area) (sections : List (List State)) : Type 0 where
  pub narrow : part.width ≤ 16
  pub short : part.length ≤ 16
  pub count : length sections ≡ section_count (cut_of part)
  pub sized : (s : ℕ) → s < section_count (cut_of part) → length (get_or sections s []) ≡ section_size (cut_of part) s

-- the sections are those of the chunk's blocks
pub record IsColumn (area : Area) (chunk : ℕ) (part : Area) (sections : List (List State)) : Type 0 where
  pub box : part ≡ column_box area chunk
  pub there : chunk < chunks area
  pub cut : IsCutUp part sections

-- ---- a grid's blocks

-- the number of the state at a position of a grid
abbrev pub kind_at : GridParts → Pos → ℕ
kind_at g p = get_or g.cells (index_of g.area p) 0

-- the states of so many blocks of a smaller box in a grid's world, from a place on
abbrev pub grid_states : GridParts → Area → ℕ → ℕ → List State
grid_states g part first count = map (λ i. state_at (world_of g) (position_of part i)) (range_with_len first count)

-- the states of all its sections
abbrev pub grid_sections : GridParts → Area → List (List State)
grid_sections g part = map (λ s. grid_states g part (section_start (cut_of part) s) (section_size (cut_of part) s)) (range_with_len 0 (section_count (cut_of part)))

-- the smaller box has the blocks of a chunk of the grid's box
pub record IsGridPart (g : GridParts) (part : Area) : Type 0 where
  pub narrow : part.width ≤ 16
  pub short : part.length ≤ 16
  pub small : volume part ≤ 33554432
  pub inside : (i : ℕ) → i < volume part → holds g.area (position_of part i) ≡ true
