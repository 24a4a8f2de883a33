-- The part of a chunk that lies in a world's box, and the order of its blocks.
use Rattle.std.specs.Prelude.{ℕ, ◌+◌, Bool, ◌&&◌, ◌==◌, ℤ, pos, ◌*ℤ◌}
use Rattle.std.specs.Int.{int_max}
use Rattle.edit_terms.specs.declared.pos.Pos.{Pos}
use Rattle.edit_terms.specs.Area.{Area, holds, index_of, sixteenth}
use Rattle.edit_terms.specs.Frame.{common_count}

-- the first coordinate of the column of 16 that a coordinate lies in
abbrev pub column_start : ℤ → ℤ
column_start v = sixteenth v *ℤ pos 16

-- the first of the size coordinates from low on that lies in the column of v, and how many of them do
abbrev pub first_in_column : ℤ → ℤ → ℤ
first_in_column low v = int_max low (column_start v)

abbrev pub count_in_column : ℤ → ℕ → ℤ → ℕ
count_in_column low size v = common_count low size (column_start v) 16

-- The blocks of the box that lie in the chunk of a position: a chunk is a column of 16 by 16 blocks by x and z.
-- They are a box themselves, and its index order is the order that they have in the whole box.
abbrev pub chunk_box : Area → Pos → Area
chunk_box a p = record {
  least = record { x = first_in_column a.least.x p.x; y = a.least.y; z = first_in_column a.least.z p.z };
  width = count_in_column a.least.x a.width p.x;
  height = a.height;
  length = count_in_column a.least.z a.length p.z;
}

-- the place of a position in the list of its chunk's blocks
abbrev pub place_in_chunk : Area → Pos → ℕ
place_in_chunk a p = index_of (chunk_box a p) p

-- q is the next cell of p: the block of p's chunk that follows p in index order
abbrev pub is_next_cell : Area → Pos → Pos → Bool
is_next_cell a p q = holds (chunk_box a p) q && (index_of (chunk_box a p) q == place_in_chunk a p + 1)
