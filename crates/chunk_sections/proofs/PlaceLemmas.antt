-- The first block of a chunk is one of the box, and the chunk's blocks are at most 16 by 16 a layer.
use Rattle.std.proofs.Common.{◌≡◌, ℕ, ◌*◌, ◌/◌, ◌%◌, ◌<◌, ◌≤◌, true, ℤ, ◌-ℤ◌, ◌≤ℤ◌, arith}
use Rattle.std.specs.Prelude.{nat_abs}
use Rattle.std.specs.Int.{int_max}
use Rattle.std.proofs.lemmas.Nat.{mod_below, div_below}
use Rattle.std.proofs.lemmas.Int.{ints}
use Rattle.edit_terms.specs.declared.pos.Pos.{Pos}
use Rattle.edit_terms.specs.Area.{Area, is_from, holds, offset, sixteenth, columns, chunks, is_world_box}
use Rattle.edit_terms.specs.Chunk.{chunk_box}
use Rattle.edit_terms.proofs.AreaLemmas.{limits}
use Rattle.edit_terms.proofs.ChunkLemmas.{held_parts, held_from, cut}
use Rattle.edit_terms.proofs.ColumnLemmas.{block_in_column}
use Rattle.chunk_sections.specs.Column.{column_start_at, first_block}

pub self_offset : (c : ℤ) → nat_abs (c -ℤ c) ≡ 0
self_offset c = grind (arith, ints)

pub not_below : (v : ℤ) → v ≤ℤ v
not_below v = grind (arith, ints)

first_held : (low : ℤ) (size : ℕ) → 0 < size → is_from low size low ≡ true
first_held low size some = grind (arith, ints)

pub axis_column : (low : ℤ) (size behind : ℕ) → 0 < size → behind < columns low size → offset (sixteenth low) (sixteenth (int_max low (column_start_at low behind))) ≡ behind
axis_column low size behind some h =
    let none = self_offset (sixteenth low) in
    (block_in_column low low size behind (not_below low) some (omega arith) (omega arith)).column

axis_held : (low : ℤ) (size behind : ℕ) → 0 < size → behind < columns low size → is_from low size (int_max low (column_start_at low behind)) ≡ true
axis_held low size behind some h =
    let none = self_offset (sixteenth low) in
    (block_in_column low low size behind (not_below low) some (omega arith) (omega arith)).held

-- the column of a chunk along x, and that along z
pub chunk_x : (a : Area) (chunk : ℕ) → chunk % columns a.least.x a.width < columns a.least.x a.width
chunk_x a chunk = mod_below chunk (columns a.least.x a.width) (omega arith)

pub chunk_z : (a : Area) (chunk : ℕ) → chunk < chunks a → chunk / columns a.least.x a.width < columns a.least.z a.length
chunk_z a chunk h =
    let turned : chunk < columns a.least.z a.length * columns a.least.x a.width = omega arith in
    div_below chunk (columns a.least.x a.width) (columns a.least.z a.length) (omega arith) turned

pub first_block_held : (a : Area) (chunk : ℕ) → is_world_box a ≡ true → chunk < chunks a → holds a (first_block a chunk) ≡ true
first_block_held a chunk box h =
    let fits = limits a box in
    held_from a (first_block a chunk) (record {
      x = axis_held a.least.x a.width (chunk % columns a.least.x a.width) fits.width (chunk_x a chunk);
      y = first_held a.least.y a.height fits.height;
      z = axis_held a.least.z a.length (chunk / columns a.least.x a.width) fits.length (chunk_z a chunk h);
    })

pub box_narrow : (a : Area) (p : Pos) → holds a p ≡ true → (chunk_box a p).width ≤ 16
box_narrow a p h = (cut a.least.x a.width p.x (held_parts a p h).x).few

pub box_short : (a : Area) (p : Pos) → holds a p ≡ true → (chunk_box a p).length ≤ 16
box_short a p h = (cut a.least.z a.length p.z (held_parts a p h).z).few
