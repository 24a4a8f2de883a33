-- The chunks of a box that a part of it touches.
use Rattle.std.specs.Prelude.{◌≡◌, ℕ, ◌+◌, ◌*◌, ◌&&◌, Bool, true, List, [], ◌∷◌, nat_le, ℤ}
use Rattle.std.specs.List.{range_with_len, flat_map}
use Rattle.edit_terms.specs.declared.pos.Pos.{Pos}
use Rattle.edit_terms.specs.Area.{Area, holds, chunk_of, offset, sixteenth, columns}

-- each number is above the one before it, and the first isn't below low
abbrev pub is_rising_from : ℕ → List ℕ → Bool
is_rising_from low [] = true
is_rising_from low (n ∷ ns) = nat_le low n && is_rising_from (n + 1) ns

-- the box's chunk of this index has a block of the part
pub record IsTouched (part a : Area) (index : ℕ) : Type 0 where
  pub block : Pos
  pub held : holds part block ≡ true
  pub place : chunk_of a block ≡ index

-- how many columns of 16 a part that begins at low begins behind the first one of a box that begins at base
abbrev pub columns_before : ℤ → ℤ → ℕ
columns_before base low = offset (sixteenth base) (sixteenth low)

-- the chunks by rows along x
abbrev pub chunk_rows : ℕ → ℕ → ℕ → ℕ → ℕ → List ℕ
chunk_rows first count step row rows = flat_map (λ z. range_with_len (first + z * step) count) (range_with_len row rows)

abbrev pub chunk_list : Area → Area → List ℕ
chunk_list part a =
    chunk_rows (columns_before a.least.x part.least.x) (columns part.least.x part.width) (columns a.least.x a.width)
    (columns_before a.least.z part.least.z) (columns part.least.z part.length)
