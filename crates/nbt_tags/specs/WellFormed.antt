-- What a named tag must meet to have a spelling: each number is in its type's range, each length and
-- count fits its field, the items of a list have its type, the names of a compound are distinct, and no
-- list or compound is deeper than 512.
use Rattle.std.specs.Prelude.{◌≡◌, ℕ, zero, suc, ◌-◌, ◌^◌, ◌<◌, ◌≤◌, FitsSigned, List, length}
use Rattle.std.specs.Int.{w8, w16, w32, w64}
use Rattle.std.specs.List.{AllByRecursion}
use Rattle.nbt_tags.specs.declared.tag.Tag.{Tag, out-Tag}
use Rattle.nbt_tags.specs.declared.tag.Tag.TheOpen as layer
use Rattle.nbt_tags.specs.declared.tag.Named.{Named}
use Rattle.nbt_tags.specs.Kinds.{tag_byte}
use Rattle.nbt_tags.specs.Spelling.{Layer, AreFresh, none_taken, names_of, name_of, tag_of, max_depth}

abbrev pub AreBytes : List ℕ → Type 0
AreBytes bytes = AllByRecursion (λ byte. byte < 256) bytes

-- a name or a string of at most 65,535 bytes
pub record IsName (text : List ℕ) : Type 0 where
  pub short : length text < 2 ^ 16
  pub bytes : AreBytes text

-- items whose count fits its field
pub record AreCounted {A : Type 0} (P : A → Type 0) (items : List A) : Type 0 where
  pub count : length items < 2 ^ 31
  pub each : AllByRecursion P items

-- which lists and compounds are well formed
pub record Within : Type 1 where
  pub list : ℕ → List Tag → Type 0
  pub compound : List Named → Type 0

-- one level, whose lists and compounds are as `inner` says
abbrev pub IsSound : Within → Layer → Type 0
IsSound inner (layer.Byte z) = FitsSigned w8 z
IsSound inner (layer.Short z) = FitsSigned w16 z
IsSound inner (layer.Int z) = FitsSigned w32 z
IsSound inner (layer.Long z) = FitsSigned w64 z
IsSound inner (layer.Float bits) = bits < 2 ^ 32
IsSound inner (layer.Double bits) = bits < 2 ^ 64
IsSound inner (layer.ByteArray items) = AreCounted (λ byte. byte < 256) items
IsSound inner (layer.Str text) = IsName text
IsSound inner (layer.List element items) = inner.list element items
IsSound inner (layer.Compound row) = inner.compound row
IsSound inner (layer.IntArray items) = AreCounted (λ z. FitsSigned w32 z) items
IsSound inner (layer.LongArray items) = AreCounted (λ z. FitsSigned w64 z) items

-- an item of a list
pub record IsSoundItem (W : Tag → Type 0) (element : ℕ) (tag : Tag) : Type 0 where
  pub type : tag_byte tag ≡ element
  pub fits : W tag

pub record IsSoundList (W : Tag → Type 0) (element : ℕ) (items : List Tag) : Type 0 where
  pub known : element ≤ 12
  pub sound : AreCounted (IsSoundItem W element) items

-- a named tag of a compound
pub record IsSoundEntry (W : Tag → Type 0) (entry : Named) : Type 0 where
  pub name : IsName (name_of entry)
  pub tag : W (tag_of entry)

-- the named tags of a compound
pub record IsSoundRow (W : Tag → Type 0) (row : List Named) : Type 0 where
  pub entries : AllByRecursion (IsSoundEntry W) row
  pub distinct : AreFresh none_taken (names_of row)

-- lists and compounds where this many levels of them may still stand in one another
unfoldable pub within : ℕ → Within
within zero = record { list = λ element items. ⊥; compound = λ row. ⊥ }
within (suc levels) =
    let W : Tag → Type 0 = λ tag. IsSound (within levels) (out-Tag tag) in
    record { list = λ element items. IsSoundList W element items; compound = λ row. IsSoundRow W row }

-- a tag in which at most that many levels of lists and compounds stand in one another
abbrev pub IsSoundTag : ℕ → Tag → Type 0
IsSoundTag levels tag = IsSound (within levels) (out-Tag tag)

-- The named tag is well formed.
abbrev pub IsWellFormed : Named → Type 0
IsWellFormed named = IsSoundEntry (IsSoundTag max_depth) named

-- The row is well formed, as a compound of that depth has it.
abbrev pub IsWellFormedRow : ℕ → List Named → Type 0
IsWellFormedRow depth row = IsSoundRow (IsSoundTag (max_depth - depth)) row
