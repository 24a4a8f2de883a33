-- What the reader knows of the named tags of a file's root.
use Rattle.std.specs.Prelude.{◌≡◌, ℕ, ℤ, ◌-◌, ◌^◌, ◌<◌, true, List, length, nat_lt}
use Rattle.std.specs.List.{AllByRecursion, list_all}
use Rattle.nbt_tags.specs.declared.tag.Tag.{Tag, out-Tag}
use Rattle.nbt_tags.specs.declared.tag.Tag.TheOpen as layer
use Rattle.nbt_tags.specs.declared.tag.Named.{Named}
use Rattle.nbt_tags.specs.Spelling.{Layer, tag_of, max_depth}
use Rattle.nbt_tags.specs.WellFormed.{IsSoundTag, IsSoundRow}

-- a Compound has fewer than 2^32 named tags
abbrev pub IsShortIn : Layer → Type 0
IsShortIn (layer.Compound row) = length row < 2 ^ 32
IsShortIn _ = Unit {0}

abbrev pub IsShort : Tag → Type 0
IsShort tag = IsShortIn (out-Tag tag)

-- the named tags are well formed, and each of them that is a Compound is short
pub record IsFileRow (row : List Named) : Type 0 where
  pub sound : IsSoundRow (IsSoundTag (max_depth - 1)) row
  pub short : AllByRecursion (λ entry. IsShort (tag_of entry)) row

-- places for so many cells, each of one of the palette's entries
pub record AreCells (numbers : List ℤ) (volume : ℕ) (cells : List ℕ) : Type 0 where
  pub long : length cells ≡ volume
  pub within : list_all (λ place. nat_lt place (length numbers)) cells ≡ true
