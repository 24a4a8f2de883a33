-- A tag that bytes spell is well formed.
use Rattle.std.proofs.Common.{◌≡◌, ℕ, zero, suc, ◌-◌, ◌^◌, ◌<◌, ◌≤◌, ℤ, pos, FitsSigned, List, [], ◌∷◌, ◌++◌, length, get_or, refl, subst, arith}
use Rattle.std.proofs.Math.Facts.{sfits_to_z, Fits-of_lt}
use Rattle.std.specs.Int.{Width, w8, w16, w32, w64, byte_len}
use Rattle.std.specs.List.{AllByRecursion}
use Rattle.byteorder.specs.Endian.{big_number}
use Rattle.byteorder.specs.Numbers.{big_from-lt}
use mir.Val.{bits}
use Rattle.nbt_tags.specs.declared.tag.Tag.{Tag, out-Tag}
use Rattle.nbt_tags.specs.declared.tag.Tag.TheOpen as layer
use Rattle.nbt_tags.specs.declared.tag.Named.{Named}
use Rattle.nbt_tags.specs.Kinds.{tag_kind}
use Rattle.nbt_tags.specs.Spelling.{Layer, Nesting, Joins, IsEach, IsNumber, IsSigned, IsCount, IsText, IsLayer, IsItem, IsList, IsArray, IsEntry, IsRow, IsCompound, IsPayload, nesting, max_depth, name_of, tag_of, Spells, SpellsRow}
use Rattle.nbt_tags.specs.WellFormed.{AreBytes, IsName, AreCounted, Within, IsSound, IsSoundItem, IsSoundList, IsSoundEntry, IsSoundRow, within, IsSoundTag, IsWellFormed, IsWellFormedRow}
use Rattle.nbt_tags.proofs.FieldReads.{type_byte-low}

-- ---- bytes

AreBytes-front : (xs ys : List ℕ) → AreBytes (xs ++ ys) → AreBytes xs
AreBytes-front [] ys h = tt
AreBytes-front (x ∷ xs) ys h = (h.0, AreBytes-front xs ys h.1)

AreBytes-back : (xs ys : List ℕ) → AreBytes (xs ++ ys) → AreBytes ys
AreBytes-back [] ys h = h
AreBytes-back (x ∷ xs) ys h = AreBytes-back xs ys h.1

pub AreBytes-from_each : (xs : List ℕ) → ((i : ℕ) → get_or xs i 0 < 256) → AreBytes xs
AreBytes-from_each [] h = tt
AreBytes-from_each (x ∷ xs) h = (h 0, AreBytes-from_each xs (λ i. h (suc i)))

AreBytes-at : (xs : List ℕ) → AreBytes xs → (i : ℕ) → get_or xs i 0 < 256
AreBytes-at [] h i = omega arith
AreBytes-at (x ∷ xs) h zero = h.0
AreBytes-at (x ∷ xs) h (suc i) = AreBytes-at xs h.1 i

-- the bytes of both parts are bytes
record BothBytes (front back : List ℕ) : Type 0 where
  front_fits : AreBytes front
  back_fits : AreBytes back

parts : {P Q : List ℕ → Type 0} (bytes : List ℕ) (j : Joins P Q bytes) → AreBytes bytes → BothBytes j.front j.back
parts bytes j h =
    let both : AreBytes (j.front ++ j.back) = subst AreBytes j.whole h in
    record { front_fits = AreBytes-front j.front j.back both; back_fits = AreBytes-back j.front j.back both }

-- ---- fields

-- a width has whole bytes
abbrev pub IsWide : Width → Type 0
IsWide w = 256 ^ byte_len w ≡ 2 ^ bits w

number_fits : (w : Width) → IsWide w → (n : ℕ) (bytes : List ℕ) → AreBytes bytes → IsNumber w n bytes → n < 2 ^ bits w
number_fits w wide n bytes h is = subst (λ (m : ℕ). n < m) wide (subst (λ (m : ℕ). m < 256 ^ byte_len w) is.worth (big_from-lt 0 (byte_len w) bytes (AreBytes-at bytes h)))

signed_fits : (w : Width) → IsWide w → (z : ℤ) (bytes : List ℕ) → AreBytes bytes → IsSigned w z bytes → FitsSigned w z
signed_fits w wide z bytes h is =
    let low : big_number (byte_len w) bytes < 2 ^ bits w = subst (λ (m : ℕ). big_number (byte_len w) bytes < m) wide (big_from-lt 0 (byte_len w) bytes (AreBytes-at bytes h)) in
    subst (λ (y : ℤ). FitsSigned w y) is.worth (sfits_to_z (Fits-of_lt low))

count_fits : (n : ℕ) (bytes : List ℕ) → AreBytes bytes → IsCount n bytes → n < 2 ^ 31
count_fits n bytes h is = (signed_fits w32 refl (pos n) bytes h is).sfits

text_fits : (text bytes : List ℕ) → AreBytes bytes → IsText text bytes → IsName text
text_fits text bytes h j =
    let b = parts bytes j h in
    record { short = number_fits w16 refl (length text) j.front b.front_fits j.first; bytes = subst AreBytes j.second b.back_fits }

each_fits : {A : Type 0} {P : A → List ℕ → Type 0} {Q : A → Type 0} → ((x : A) (bytes : List ℕ) → AreBytes bytes → P x bytes → Q x) → (xs : List A) (bytes : List ℕ) → AreBytes bytes → IsEach P xs bytes → AllByRecursion Q xs
each_fits one [] bytes h j = tt
each_fits one (x ∷ xs) bytes h j =
    let b = parts bytes j h in
    (one x j.front b.front_fits j.first, each_fits one xs j.back b.back_fits j.second)

array_fits : {A : Type 0} {P : A → List ℕ → Type 0} {Q : A → Type 0} → ((x : A) (bytes : List ℕ) → AreBytes bytes → P x bytes → Q x) → (xs : List A) (bytes : List ℕ) → AreBytes bytes → IsArray P xs bytes → AreCounted Q xs
array_fits one xs bytes h j =
    let b = parts bytes j h in
    record { count = count_fits (length xs) j.front b.front_fits j.first; each = each_fits one xs j.back b.back_fits j.second }

-- ---- one level

record Fit (N : Nesting) (W : Within) : Type 0 where
  list : (element : ℕ) (items : List Tag) (bytes : List ℕ) → AreBytes bytes → N.list element items bytes → W.list element items
  compound : (row : List Named) (bytes : List ℕ) → AreBytes bytes → N.compound row bytes → W.compound row

layer_fits : (N : Nesting) (W : Within) → Fit N W → (level : Layer) (bytes : List ℕ) → AreBytes bytes → IsLayer N level bytes → IsSound W level
layer_fits N W f (layer.Byte z) bytes h is = signed_fits w8 refl z bytes h is
layer_fits N W f (layer.Short z) bytes h is = signed_fits w16 refl z bytes h is
layer_fits N W f (layer.Int z) bytes h is = signed_fits w32 refl z bytes h is
layer_fits N W f (layer.Long z) bytes h is = signed_fits w64 refl z bytes h is
layer_fits N W f (layer.Float n) bytes h is = number_fits w32 refl n bytes h is
layer_fits N W f (layer.Double n) bytes h is = number_fits w64 refl n bytes h is
layer_fits N W f (layer.ByteArray items) bytes h j =
    let b = parts bytes j h in
    record { count = count_fits (length items) j.front b.front_fits j.first; each = subst AreBytes j.second b.back_fits }
layer_fits N W f (layer.Str text) bytes h j = text_fits text bytes h j
layer_fits N W f (layer.List element items) bytes h is = f.list element items bytes h is
layer_fits N W f (layer.Compound row) bytes h is = f.compound row bytes h is
layer_fits N W f (layer.IntArray items) bytes h is = array_fits (λ z part fits one. signed_fits w32 refl z part fits one) items bytes h is
layer_fits N W f (layer.LongArray items) bytes h is = array_fits (λ z part fits one. signed_fits w64 refl z part fits one) items bytes h is

-- ---- lists and compounds

module _ {P : Tag → List ℕ → Type 0} {W : Tag → Type 0} (one : (tag : Tag) (bytes : List ℕ) → AreBytes bytes → P tag bytes → W tag) where
  list_fits : (element : ℕ) (items : List Tag) (bytes : List ℕ) → AreBytes bytes → IsList P element items bytes → IsSoundList W element items
  list_fits element [] bytes h is = record { known = is.0; sound = record { count = omega arith; each = tt } }
  list_fits element (t ∷ ts) bytes h j =
      let b = parts bytes j h in
      record {
        known = subst (λ (n : ℕ). n ≤ 12) j.second.second.first.type (type_byte-low (tag_kind t));
        sound = array_fits {P = IsItem P element} {Q = IsSoundItem W element} (λ tag part fits item. record { type = item.type; fits = one tag part fits item.payload }) (t ∷ ts) j.back b.back_fits j.second;
      }

  entry_fits : (entry : Named) (bytes : List ℕ) → AreBytes bytes → IsEntry P entry bytes → IsSoundEntry W entry
  entry_fits entry bytes h j =
      let b = parts bytes j h in
      let c = parts j.back j.second b.back_fits in
      record { name = text_fits (name_of entry) j.second.front c.front_fits j.second.first; tag = one (tag_of entry) j.second.back c.back_fits j.second.second }

  row_fits : (row : List Named) (bytes : List ℕ) → AreBytes bytes → IsRow P row bytes → IsSoundRow W row
  row_fits row bytes h r = record { entries = each_fits entry_fits row bytes h r.entries; distinct = r.distinct }

  compound_fits : (row : List Named) (bytes : List ℕ) → AreBytes bytes → IsCompound P row bytes → IsSoundRow W row
  compound_fits row bytes h j = let b = parts bytes j h in row_fits row j.front b.front_fits j.first

nesting_fits : (levels : ℕ) → Fit (nesting levels) (within levels)
unfolding nesting within
nesting_fits zero = record { list = λ element items bytes h is. absurd is; compound = λ row bytes h is. absurd is }
nesting_fits (suc levels) =
    let one : (tag : Tag) (bytes : List ℕ) → AreBytes bytes → IsPayload levels tag bytes → IsSoundTag levels tag =
    λ tag bytes h is. layer_fits (nesting levels) (within levels) (nesting_fits levels) (out-Tag tag) bytes h is in
    record { list = list_fits one; compound = compound_fits one }

pub payload_fits : (levels : ℕ) (tag : Tag) (bytes : List ℕ) → AreBytes bytes → IsPayload levels tag bytes → IsSoundTag levels tag
payload_fits levels tag bytes h is = layer_fits (nesting levels) (within levels) (nesting_fits levels) (out-Tag tag) bytes h is

pub Spells-fits : (entry : Named) (bytes : List ℕ) → AreBytes bytes → Spells entry bytes → IsWellFormed entry
Spells-fits = entry_fits (payload_fits max_depth)

pub SpellsRow-fits : (depth : ℕ) (row : List Named) (bytes : List ℕ) → AreBytes bytes → SpellsRow depth row bytes → IsWellFormedRow depth row
SpellsRow-fits depth = row_fits (payload_fits (max_depth - depth))
