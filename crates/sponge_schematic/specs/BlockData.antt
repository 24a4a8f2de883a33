-- The block data of a schematic: for each cell in index order the varint of its palette number.
use Rattle.std.specs.Prelude.{ℕ, zero, suc, ◌+◌, ◌-◌, ℤ, pos, List, [], ◌∷◌, length, Option, Result, Ok, Err, position}
use Rattle.std.specs.Option.{ok_or}
use Rattle.std.specs.Ordering.{int_eq}
use Rattle.nbt_tags.specs.declared.tag.Named.{Named}
use Rattle.sponge_schematic.specs.declared.fault.Field.TheVariants as fields
use Rattle.sponge_schematic.specs.declared.fault.WorldFault.{WorldFault}
use Rattle.sponge_schematic.specs.declared.fault.WorldFault.TheVariants as faults
use Rattle.sponge_schematic.specs.Fields.{◌>>=◌, required, bytes_of}
use Rattle.sponge_schematic.specs.Varint.{varint_at}

-- the place in the palette of the first entry that has this number
abbrev pub place_of : List ℤ → ℕ → Option ℕ
place_of numbers n = position (λ z. int_eq z (pos n)) numbers

-- The palette's place for a cell, whose varint is the first of these bytes, and the bytes behind it. The block data
-- have `size` bytes in all.
unfoldable pub cell_at : List ℤ → ℕ → ℕ → List ℕ → Result (ℕ × List ℕ) WorldFault
cell_at numbers size cell bytes = do
  number ← varint_at cell (size - length bytes) bytes
  place ← ok_or (place_of numbers number.0) (faults.BadIndex cell number.0)
  Ok (place, number.1)

-- the same for so many cells from that one on
unfoldable pub cells_from : List ℤ → ℕ → ℕ → ℕ → List ℕ → Result (List ℕ × List ℕ) WorldFault
cells_from numbers size cell zero bytes = Ok ([], bytes)
cells_from numbers size cell (suc count) bytes = do
  first ← cell_at numbers size cell bytes
  others ← cells_from numbers size (cell + 1) count first.1
  Ok (first.0 ∷ others.0, others.1)

-- no byte is left behind the last cell
abbrev pub all_read : List ℕ × List ℕ → Result (List ℕ) WorldFault
all_read (cells, []) = Ok cells
all_read (cells, b ∷ bytes) = Err (faults.LongData (length (b ∷ bytes)))

-- the palette's places for all of so many cells
unfoldable pub cells_in : List ℤ → ℕ → List ℕ → Result (List ℕ) WorldFault
cells_in numbers volume bytes = do
  cells ← cells_from numbers (length bytes) 0 volume bytes
  all_read cells

-- the block data, a ByteArray
unfoldable pub cells_of : List ℤ → ℕ → List Named → Result (List ℕ) WorldFault
cells_of numbers volume row = do
  tag ← required fields.BlockData row
  bytes ← bytes_of fields.BlockData tag
  cells_in numbers volume bytes
