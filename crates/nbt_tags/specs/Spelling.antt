-- Which bytes spell which named tag, from the tree to its bytes, by cases on the kind of each tag.
-- The format is NBT, the named binary tags of Minecraft's Java edition (minecraft.wiki, "NBT format"),
-- without compression. Numbers are big-endian, and names and strings are raw bytes.
use Rattle.std.specs.Prelude.{◌≡◌, ℕ, zero, suc, ◌-◌, ◌≤◌, ℤ, pos, ◌≤ℤ◌, Bool, false, ◌||◌, List, [], ◌∷◌, ◌++◌, length, map}
use Rattle.std.specs.Int.{Width, w8, w16, w32, w64, byte_len, cast_signed}
use Rattle.std.specs.Str.{bytes_eq}
use Rattle.byteorder.specs.Endian.{big_number}
use Rattle.nbt_tags.specs.declared.tag.Tag.{Tag, out-Tag}
use Rattle.nbt_tags.specs.declared.tag.Tag.TheOpen as layer
use Rattle.nbt_tags.specs.declared.tag.Named.{Named, out-Named}
use Rattle.nbt_tags.specs.Kinds.{tag_byte}

-- one level of a tag
abbrev pub Layer : Type 0
Layer = layer.Tag-F Tag Named

abbrev pub name_of : Named → List ℕ
name_of named = (out-Named named).name

abbrev pub tag_of : Named → Tag
tag_of named = (out-Named named).tag

-- ---- parts

-- the bytes are a first part that P holds of, and a second that Q holds of
pub record Joins (P Q : List ℕ → Type 0) (bytes : List ℕ) : Type 0 where
  pub front : List ℕ
  pub back : List ℕ
  pub whole : bytes ≡ front ++ back
  pub first : P front
  pub second : Q back

-- the bytes are one part for each item, in their order
abbrev pub IsEach : {A : Type 0} → (A → List ℕ → Type 0) → List A → List ℕ → Type 0
IsEach P [] bytes = bytes ≡ []
IsEach P (x ∷ xs) bytes = Joins (P x) (IsEach P xs) bytes

-- as many bytes as the width has, which are worth the number
pub record IsNumber (w : Width) (number : ℕ) (bytes : List ℕ) : Type 0 where
  pub size : length bytes ≡ byte_len w
  pub worth : big_number (byte_len w) bytes ≡ number

-- the same for a signed number, in two's complement
pub record IsSigned (w : Width) (number : ℤ) (bytes : List ℕ) : Type 0 where
  pub size : length bytes ≡ byte_len w
  pub worth : cast_signed w (big_number (byte_len w) bytes) ≡ number

-- a count of four bytes
abbrev pub IsCount : ℕ → List ℕ → Type 0
IsCount count = IsSigned w32 (pos count)

-- a name or a string: its length in two bytes, and its bytes
abbrev pub IsText : List ℕ → List ℕ → Type 0
IsText text = Joins (IsNumber w16 (length text)) (λ back. back ≡ text)

-- an array: its count, and one part for each item
abbrev pub IsArray : {A : Type 0} → (A → List ℕ → Type 0) → List A → List ℕ → Type 0
IsArray P items = Joins (IsCount (length items)) (IsEach P items)

-- a byte of an array, which is kept as it is
abbrev pub IsPlain : ℕ → List ℕ → Type 0
IsPlain byte bytes = bytes ≡ byte ∷ []

-- ---- one level

-- how lists and compounds are spelled
pub record Nesting : Type 1 where
  pub list : ℕ → List Tag → List ℕ → Type 0
  pub compound : List Named → List ℕ → Type 0

-- the payload of a tag, where its lists and compounds are spelled as `inner` says
abbrev pub IsLayer : Nesting → Layer → List ℕ → Type 0
IsLayer inner (layer.Byte z) = IsSigned w8 z
IsLayer inner (layer.Short z) = IsSigned w16 z
IsLayer inner (layer.Int z) = IsSigned w32 z
IsLayer inner (layer.Long z) = IsSigned w64 z
IsLayer inner (layer.Float n) = IsNumber w32 n
IsLayer inner (layer.Double n) = IsNumber w64 n
IsLayer inner (layer.ByteArray items) = Joins (IsCount (length items)) (λ back. back ≡ items)
IsLayer inner (layer.Str text) = IsText text
IsLayer inner (layer.List element items) = inner.list element items
IsLayer inner (layer.Compound row) = inner.compound row
IsLayer inner (layer.IntArray items) = IsArray (IsSigned w32) items
IsLayer inner (layer.LongArray items) = IsArray (IsSigned w64) items

-- ---- lists

-- an item of a list: it has the list's element type, and its payload is spelled by P
pub record IsItem (P : Tag → List ℕ → Type 0) (element : ℕ) (tag : Tag) (bytes : List ℕ) : Type 0 where
  pub type : tag_byte tag ≡ element
  pub payload : P tag bytes

-- a count of zero or less, which an empty list has
pub record IsNoCount (bytes : List ℕ) : Type 0 where
  pub count : ℤ
  pub none : count ≤ℤ pos 0
  pub spelled : IsSigned w32 count bytes

-- A list: its element type, its count, and the items' payloads. An empty list may have any element
-- type up to 12, and a count of zero or less.
abbrev pub IsList : (Tag → List ℕ → Type 0) → ℕ → List Tag → List ℕ → Type 0
IsList P element [] bytes = (element ≤ 12) × Joins (IsPlain element) IsNoCount bytes
IsList P element (t ∷ ts) bytes = Joins (IsPlain element) (IsArray (IsItem P element) (t ∷ ts)) bytes

-- ---- compounds

-- the names that are taken, and this one
abbrev pub also : List ℕ → (List ℕ → Bool) → List ℕ → Bool
also name taken other = bytes_eq name other || taken other

-- no name of the list is taken, and none stands in it twice
abbrev pub AreFresh : (List ℕ → Bool) → List (List ℕ) → Type 0
AreFresh taken [] = Unit {0}
AreFresh taken (name ∷ names) = (taken name ≡ false) × AreFresh (also name taken) names

-- at first no name is taken
abbrev pub none_taken : List ℕ → Bool
none_taken name = false

abbrev pub names_of : List Named → List (List ℕ)
names_of row = map name_of row

-- a named tag: its type byte, its name, and its payload as P spells it
abbrev pub IsEntry : (Tag → List ℕ → Type 0) → Named → List ℕ → Type 0
IsEntry P named = Joins (IsPlain (tag_byte (tag_of named))) (Joins (IsText (name_of named)) (P (tag_of named)))

-- a row of named tags, no two of which have one name
pub record IsRow (P : Tag → List ℕ → Type 0) (row : List Named) (bytes : List ℕ) : Type 0 where
  pub entries : IsEach (IsEntry P) row bytes
  pub distinct : AreFresh none_taken (names_of row)

-- a compound: its named tags, and a byte 0
abbrev pub IsCompound : (Tag → List ℕ → Type 0) → List Named → List ℕ → Type 0
IsCompound P row = Joins (IsRow P row) (IsPlain 0)

-- ---- trees

-- lists and compounds where this many levels of them may still stand in one another
unfoldable pub nesting : ℕ → Nesting
nesting zero = record { list = λ element items bytes. ⊥; compound = λ row bytes. ⊥ }
nesting (suc levels) =
    let P : Tag → List ℕ → Type 0 = λ tag bytes. IsLayer (nesting levels) (out-Tag tag) bytes in
    record { list = λ element items bytes. IsList P element items bytes; compound = λ row bytes. IsCompound P row bytes }

-- the payload of a tag in which at most that many levels of lists and compounds stand in one another
abbrev pub IsPayload : ℕ → Tag → List ℕ → Type 0
IsPayload levels tag bytes = IsLayer (nesting levels) (out-Tag tag) bytes

-- the greatest depth of a list or compound, where the root has depth 1
abbrev pub max_depth : ℕ
max_depth = 512

-- The bytes spell the named tag.
abbrev pub Spells : Named → List ℕ → Type 0
Spells named bytes = IsEntry (IsPayload max_depth) named bytes

-- The bytes spell what stands between the braces of a compound of that depth.
abbrev pub SpellsRow : ℕ → List Named → List ℕ → Type 0
SpellsRow depth row bytes = IsRow (IsPayload (max_depth - depth)) row bytes
