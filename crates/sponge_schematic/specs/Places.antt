-- How the reader finds the palette's place for a number: small numbers in a table, others in a map.
use Rattle.std.specs.Prelude.{◌≡◌, ℕ, false, ℤ, pos, negsuc, length, nat_lt, if◌then◌else◌, ◌==◌, List, Option, None, Some, get_or}
use Rattle.std.specs.Ordering.{nat_cmp}
use Rattle.std.specs.BTreeMap.{get}
use Rattle.sponge_schematic.specs.declared.places.Table.{Table}
use Rattle.sponge_schematic.specs.BlockData.{place_of}

-- the place that the table has for a number
abbrev pub place_in : Table → ℕ → Option ℕ
place_in table n = if nat_lt n (length table.small.items) then get_or table.small.items n None else get nat_cmp table.large n

-- the table with that place for that number
pub record IsPut (old new : Table) (number place : ℕ) : Type 0 where
  pub own : place_in new number ≡ Some place
  pub others : (n : ℕ) → (n == number) ≡ false → place_in new n ≡ place_in old n

-- the table has the place of the first entry with each number
pub record IsTableOf (table : Table) (numbers : List ℤ) : Type 0 where
  pub finds : (n : ℕ) → place_in table n ≡ place_of numbers n

-- a number that varints can spell
abbrev pub natural : ℤ → Option ℕ
natural (pos n) = Some n
natural (negsuc _) = None
