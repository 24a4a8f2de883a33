-- The box of a world: which positions belong to it, and in which order its blocks are listed.
use Rattle.std.specs.Prelude.{◌≡◌, ℕ, ◌+◌, ◌-◌, ◌*◌, ◌/◌, ◌%◌, Bool, true, ◌&&◌, nat_le, nat_lt, ℤ, pos, negsuc, ◌+ℤ◌, ◌-ℤ◌, nat_abs, int_le, int_lt}
use Rattle.std.specs.Int.{int_div_euclid}
use Rattle.edit_terms.specs.declared.pos.Pos.{Pos}

-- A box of blocks: its least corner, and how many blocks it has along x (width), y (height) and z (length).
pub record Area : Type 0 where
  pub least : Pos
  pub width : ℕ
  pub height : ℕ
  pub length : ℕ

-- how many blocks a box has
abbrev pub volume : Area → ℕ
volume a = a.width * a.height * a.length

-- the coordinate is one of the size numbers from low on
abbrev pub is_from : ℤ → ℕ → ℤ → Bool
is_from low size v = int_le low v && int_lt v (low +ℤ pos size)

-- the position is a block of the box
abbrev pub holds : Area → Pos → Bool
holds a p = is_from a.least.x a.width p.x && is_from a.least.y a.height p.y && is_from a.least.z a.length p.z

-- how far a coordinate is above another that is not greater
abbrev pub offset : ℤ → ℤ → ℕ
offset low v = nat_abs (v -ℤ low)

-- The place of a block in the list of the box's blocks: x runs fastest, then z, then y (Sponge Schematic
-- Specification 2). It is meant for positions of the box.
abbrev pub index_of : Area → Pos → ℕ
index_of a p = offset a.least.x p.x + offset a.least.z p.z * a.width + offset a.least.y p.y * (a.width * a.length)

-- the block at a place of that list
abbrev pub position_of : Area → ℕ → Pos
position_of a index = record {
  x = a.least.x +ℤ pos (index % a.width);
  y = a.least.y +ℤ pos (index / (a.width * a.length));
  z = a.least.z +ℤ pos (index / a.width % a.length);
}

-- the size numbers from low on all lie among the count numbers from first on
abbrev pub is_within : ℤ → ℕ → ℤ → ℕ → Bool
is_within first count low size = int_le first low && int_le (low +ℤ pos size) (first +ℤ pos count)

-- each block of the part is one of the box
abbrev pub is_part : Area → Area → Bool
is_part part a =
    is_within a.least.x a.width part.least.x part.width && is_within a.least.y a.height part.least.y part.height
    && is_within a.least.z a.length part.least.z part.length

-- The map, where worlds and builders' positions lie: x and z are -33,554,432 to 33,554,431, and y is -2,048 to 2,047.
abbrev pub map_area : Area
map_area = record {
  least = record { x = negsuc 33554431; y = negsuc 2047; z = negsuc 33554431 };
  width = 67108864;
  height = 4096;
  length = 67108864;
}

-- the position is on the map
abbrev pub is_on_map : Pos → Bool
is_on_map p = holds map_area p

abbrev pub IsOnMap : Pos → Type 0
IsOnMap p = is_on_map p ≡ true

-- a size of 1 to 65,535 blocks, as the format's unsigned 16 bits give it
abbrev pub is_size : ℕ → Bool
is_size n = nat_lt 0 n && nat_le n 65535

-- the sizes and the volume are within the limits
abbrev pub is_sized : Area → Bool
is_sized a = is_size a.width && is_size a.height && is_size a.length && nat_le (volume a) 33554432

-- the box of a world: its sizes and volume within the limits, each of its blocks on the map
abbrev pub is_world_box : Area → Bool
is_world_box a = is_sized a && is_part a map_area

-- the column of 16 blocks that a coordinate lies in, rounded down
abbrev pub sixteenth : ℤ → ℤ
sixteenth v = int_div_euclid v (pos 16)

-- how many columns of 16 have one of the size numbers from low on; the size isn't 0
abbrev pub columns : ℤ → ℕ → ℕ
columns low size = offset (sixteenth low) (sixteenth (low +ℤ pos (size - 1))) + 1

-- How many chunks have a block of the box. A chunk is a column of 16 by 16 blocks by x and z.
abbrev pub chunks : Area → ℕ
chunks a = columns a.least.x a.width * columns a.least.z a.length

-- The index of the chunk of a position of the box: from the least corner's chunk, x runs faster than z.
abbrev pub chunk_of : Area → Pos → ℕ
chunk_of a p =
    offset (sixteenth a.least.x) (sixteenth p.x) + offset (sixteenth a.least.z) (sixteenth p.z) * columns a.least.x a.width

-- this position of the box has this place in the list of its blocks
pub record IsBlockAt (a : Area) (index : ℕ) (p : Pos) : Type 0 where
  pub held : holds a p ≡ true
  pub place : index_of a p ≡ index
