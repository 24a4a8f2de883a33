-- The varints of a schematic's block data: seven bits a byte, the low group first; a set high bit means that more
-- follows. 300 is AC 02.
use Rattle.std.specs.Prelude.{ℕ, zero, suc, ◌+◌, ◌-◌, ◌*◌, ◌/◌, ◌%◌, nat_lt, nat_le, if◌then◌else◌, List, [], ◌∷◌, Result, Ok, Err}
use Rattle.sponge_schematic.specs.declared.fault.WorldFault.{WorldFault}
use Rattle.sponge_schematic.specs.declared.fault.WorldFault.TheVariants as faults
use Rattle.sponge_schematic.specs.Fields.{◌>>=◌}

-- the shortest varint with at most this many further bytes
abbrev pub varint_within : ℕ → ℕ → List ℕ
varint_within zero n = n ∷ []
varint_within (suc further) n = if nat_lt n 128 then n ∷ [] else (128 + n % 128) ∷ varint_within further (n / 128)

-- the shortest varint of a number below 2^32: at most five bytes
unfoldable pub varint : ℕ → List ℕ
varint n = varint_within 4 n

-- the next byte of a cell's varint, and the bytes behind it
abbrev pub byte_in : ℕ → List ℕ → Result (ℕ × List ℕ) WorldFault
byte_in cell [] = Err (faults.ShortData cell)
byte_in cell (b ∷ bytes) = Ok (b, bytes)

-- The number of a varint with at most this many further bytes, and the bytes behind it. It belongs to that cell and
-- begins at that byte of the block data, which its faults tell. It needn't be the shortest of its number, but the
-- last byte that it may have is at most 7.
abbrev pub varint_from : ℕ → ℕ → ℕ → List ℕ → Result (ℕ × List ℕ) WorldFault
varint_from cell at zero bytes = do
  last ← byte_in cell bytes
  if nat_le last.0 7 then Ok last else Err (faults.BadVarint at)
varint_from cell at (suc further) bytes = do
  low ← byte_in cell bytes
  if nat_lt low.0 128 then Ok low else (varint_from cell at further low.1 >>= λ high. Ok (low.0 - 128 + 128 * high.0, high.1))

-- the number of a varint of at most five bytes: below 2^31
unfoldable pub varint_at : ℕ → ℕ → List ℕ → Result (ℕ × List ℕ) WorldFault
varint_at cell at bytes = varint_from cell at 4 bytes
