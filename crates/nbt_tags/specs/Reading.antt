-- Reading from the front: what the bytes begin with, and the bytes behind it, or the first fault.
use Rattle.std.specs.Prelude.{◌≡◌, ℕ, zero, suc, ◌+◌, ◌-◌, ◌*◌, ℤ, pos, negsuc, Bool, List, [], ◌∷◌, length, take, drop, Option, Some, None, Result, Ok, Err, nat_lt, if◌then◌else◌}
use Rattle.std.specs.Int.{Width, w8, w16, w32, w64, byte_len, cast_signed}
use Rattle.std.specs.Result.{result_ok}
use Rattle.byteorder.specs.Endian.{big_number}
use Rattle.nbt_tags.specs.declared.ending.Ending.{Ending}
use Rattle.nbt_tags.specs.declared.ending.Ending.TheVariants as endings
use Rattle.nbt_tags.specs.declared.fault.NbtFault.{NbtFault}
use Rattle.nbt_tags.specs.declared.fault.NbtFault.TheVariants as faults
use Rattle.nbt_tags.specs.declared.flaw.Cause.{Cause}
use Rattle.nbt_tags.specs.declared.flaw.Cause.TheVariants.{Short, BadType, BadCount, Duplicate, Deep, Trailing}
use Rattle.nbt_tags.specs.declared.flaw.Flaw.{Flaw}
use Rattle.nbt_tags.specs.declared.flaw.Failure.{Failure}
use Rattle.nbt_tags.specs.declared.flaw.Failure.TheVariants as failures
use Rattle.nbt_tags.specs.declared.kind.Kind.{Kind}
use Rattle.nbt_tags.specs.declared.kind.Kind.TheVariants as kinds
use Rattle.nbt_tags.specs.declared.tag.Tag.{Tag}
use Rattle.nbt_tags.specs.declared.tag.Tag.TheVariants as tags
use Rattle.nbt_tags.specs.declared.tag.Named.{Named, roll-Named}
use Rattle.nbt_tags.specs.Kinds.{kind_of}
use Rattle.nbt_tags.specs.Spelling.{also, none_taken, name_of, max_depth}

-- what was read and the bytes behind it, or the first fault, told by the bytes that are left there
abbrev pub Read : Type 0 → Type 0
Read A = Result (A × List ℕ) Flaw

infixl 10 ◌>>=◌
abbrev pub ◌>>=◌ : {A B : Type 0} → Result A Flaw → (A → Result B Flaw) → Result B Flaw
(Ok x) >>= f = f x
(Err e) >>= f = Err e

-- a fault at the first of these bytes
abbrev pub flaw_at : Cause → List ℕ → Flaw
flaw_at cause bytes = record { cause = cause; left = length bytes }

-- ---- fields

-- so many bytes
unfoldable pub bytes_at : ℕ → List ℕ → Read (List ℕ)
bytes_at count bytes =
    if nat_lt (length bytes) count then Err (flaw_at Short bytes) else Ok (take count bytes, drop count bytes)

unfoldable pub number_at : Width → List ℕ → Read ℕ
number_at w bytes = do
  cells ← bytes_at (byte_len w) bytes
  Ok (big_number (byte_len w) cells.0, cells.1)

unfoldable pub signed_at : Width → List ℕ → Read ℤ
signed_at w bytes = do
  cells ← bytes_at (byte_len w) bytes
  Ok (cast_signed w (big_number (byte_len w) cells.0), cells.1)

-- a name or a string
unfoldable pub text_at : List ℕ → Read (List ℕ)
text_at bytes = do
  size ← number_at w16 bytes
  bytes_at size.0 size.1

-- the kind of a type byte that is the first of the bytes, if it stands for one
abbrev pub known_kind : List ℕ → Option Kind → List ℕ → Read Kind
known_kind bytes None rest = Err (flaw_at BadType bytes)
known_kind bytes (Some kind) rest = Ok (kind, rest)

-- the type byte of a tag
unfoldable pub kind_at : List ℕ → Read Kind
kind_at [] = Err (flaw_at Short [])
kind_at (byte ∷ rest) = known_kind (byte ∷ rest) (kind_of byte) rest

-- a byte as a list's element type, where these bytes begin with it and those are behind it
abbrev pub known_element : List ℕ → ℕ → List ℕ → Read ℕ
known_element bytes byte rest = if nat_lt 12 byte then Err (flaw_at BadType bytes) else Ok (byte, rest)

-- the element type of a list
unfoldable pub element_at : List ℕ → Read ℕ
element_at [] = Err (flaw_at Short [])
element_at (byte ∷ rest) = known_element (byte ∷ rest) byte rest

-- a count that stands at the first bytes, and was read there
abbrev pub natural_count : List ℕ → ℤ → List ℕ → Read ℕ
natural_count bytes (pos count) rest = Ok (count, rest)
natural_count bytes (negsuc _) rest = Err (flaw_at BadCount bytes)

-- the count of an array
unfoldable pub count_at : List ℕ → Read ℕ
count_at bytes = do
  count ← signed_at w32 bytes
  natural_count bytes count.0 count.1

-- the signed numbers that so many parts of the bytes are worth
unfoldable pub numbers_in : Width → ℕ → List ℕ → List ℤ
numbers_in w zero bytes = []
numbers_in w (suc count) bytes =
    cast_signed w (big_number (byte_len w) (take (byte_len w) bytes)) ∷ numbers_in w count (drop (byte_len w) bytes)

-- the numbers of an array, whose bytes are one field
unfoldable pub numbers_at : Width → ℕ → List ℕ → Read (List ℤ)
numbers_at w count bytes = do
  cells ← bytes_at (byte_len w * count) bytes
  Ok (numbers_in w count cells.0, cells.1)

-- ---- payloads that hold no tags

unfoldable pub byte_array_at : List ℕ → Read Tag
byte_array_at bytes = do
  count ← count_at bytes
  items ← bytes_at count.0 count.1
  Ok (tags.ByteArray items.0, items.1)

unfoldable pub string_at : List ℕ → Read Tag
string_at bytes = do
  text ← text_at bytes
  Ok (tags.Str text.0, text.1)

unfoldable pub int_array_at : List ℕ → Read Tag
int_array_at bytes = do
  count ← count_at bytes
  items ← numbers_at w32 count.0 count.1
  Ok (tags.IntArray items.0, items.1)

unfoldable pub long_array_at : List ℕ → Read Tag
long_array_at bytes = do
  count ← count_at bytes
  items ← numbers_at w64 count.0 count.1
  Ok (tags.LongArray items.0, items.1)

-- one number as a tag
abbrev pub signed_tag : Width → (ℤ → Tag) → List ℕ → Read Tag
signed_tag w tag bytes = do
  number ← signed_at w bytes
  Ok (tag number.0, number.1)

-- the bits of a float as a tag
abbrev pub bits_tag : Width → (ℕ → Tag) → List ℕ → Read Tag
bits_tag w tag bytes = do
  number ← number_at w bytes
  Ok (tag number.0, number.1)

-- ---- payloads of one level

-- how the payloads of lists and compounds are read
pub record Nested : Type 0 where
  pub list : List ℕ → Read Tag
  pub compound : List ℕ → Read Tag

-- the payload of a tag of that kind
unfoldable pub content : Nested → Kind → List ℕ → Read Tag
content nested kinds.Byte bytes = signed_tag w8 tags.Byte bytes
content nested kinds.Short bytes = signed_tag w16 tags.Short bytes
content nested kinds.Int bytes = signed_tag w32 tags.Int bytes
content nested kinds.Long bytes = signed_tag w64 tags.Long bytes
content nested kinds.Float bytes = bits_tag w32 tags.Float bytes
content nested kinds.Double bytes = bits_tag w64 tags.Double bytes
content nested kinds.ByteArray bytes = byte_array_at bytes
content nested kinds.Str bytes = string_at bytes
content nested kinds.List bytes = nested.list bytes
content nested kinds.Compound bytes = nested.compound bytes
content nested kinds.IntArray bytes = int_array_at bytes
content nested kinds.LongArray bytes = long_array_at bytes

-- ---- lists

-- so many payloads, one after the other
unfoldable pub items_at : (List ℕ → Read Tag) → ℕ → List ℕ → Read (List Tag)
items_at payload zero bytes = Ok ([], bytes)
items_at payload (suc count) bytes = do
  first ← payload bytes
  others ← items_at payload count first.1
  Ok (first.0 ∷ others.0, others.1)

-- the items of a list that begins at the first bytes, if its element type stands for a kind
unfoldable pub items_of : (Kind → List ℕ → Read Tag) → List ℕ → Option Kind → ℕ → List ℕ → Read (List Tag)
items_of payload bytes None count rest = Err (flaw_at BadType bytes)
items_of payload bytes (Some kind) count rest = items_at (payload kind) count rest

-- what follows a list's count: nothing behind a count of zero or less
unfoldable pub counted_at : (Kind → List ℕ → Read Tag) → List ℕ → ℕ → ℤ → List ℕ → Read (List Tag)
counted_at payload bytes element (pos zero) rest = Ok ([], rest)
counted_at payload bytes element (pos (suc count)) rest = items_of payload bytes (kind_of element) (suc count) rest
counted_at payload bytes element (negsuc _) rest = Ok ([], rest)

-- a list whose items are read by `payload`
unfoldable pub list_in : (Kind → List ℕ → Read Tag) → List ℕ → Read Tag
list_in payload bytes = do
  element ← element_at bytes
  count ← signed_at w32 element.1
  items ← counted_at payload bytes element.0 count.0 count.1
  Ok (tags.List element.0 items.0, items.1)

-- ---- compounds

-- the kind of the next named tag of a row, or its end
unfoldable pub next_at : Ending → List ℕ → Read (Option Kind)
next_at endings.Zero [] = Err (flaw_at Short [])
next_at endings.Zero (zero ∷ rest) = Ok (None, rest)
next_at endings.Zero (suc byte ∷ rest) = do
  kind ← kind_at (suc byte ∷ rest)
  Ok (Some kind.0, kind.1)
next_at endings.Input [] = Ok (None, [])
next_at endings.Input (byte ∷ rest) = do
  kind ← kind_at (byte ∷ rest)
  Ok (Some kind.0, kind.1)

-- a name that is not taken; the tag's type byte is the first of the bytes
unfoldable pub fresh_at : (List ℕ → Bool) → List ℕ → List ℕ → Read (List ℕ)
fresh_at taken bytes rest = do
  name ← text_at rest
  if taken name.0 then Err (flaw_at Duplicate bytes) else Ok name

abbrev pub named : List ℕ → Tag → Named
named name tag = roll-Named (record { name = name; tag = tag })

-- the name and the payload of a named tag, whose type byte is the first of the bytes
unfoldable pub entry_at : (List ℕ → Read Tag) → (List ℕ → Bool) → List ℕ → List ℕ → Read Named
entry_at payload taken bytes rest = do
  name ← fresh_at taken bytes rest
  tag ← payload name.1
  Ok (named name.0 tag.0, tag.1)

-- a row that goes on with a named tag of that kind, whose type byte is the first of the bytes, or ends;
-- `others` reads what follows that tag, where its name is taken too
unfoldable pub row_from : (Kind → List ℕ → Read Tag) → ((List ℕ → Bool) → List ℕ → Read (List Named)) → (List ℕ → Bool) → List ℕ → Option Kind → List ℕ → Read (List Named)
row_from payload others taken bytes None rest = Ok ([], rest)
row_from payload others taken bytes (Some kind) rest = do
  first ← entry_at (payload kind) taken bytes rest
  more ← others (also (name_of first.0) taken) first.1
  Ok (first.0 ∷ more.0, more.1)

-- A row of named tags up to its end. It has fewer of them than it has bytes, so one step more than
-- there are bytes reaches its end.
unfoldable pub row_at : (Kind → List ℕ → Read Tag) → Ending → ℕ → (List ℕ → Bool) → List ℕ → Read (List Named)
row_at payload ending zero taken bytes = Err (flaw_at Short [])
row_at payload ending (suc steps) taken bytes = do
  next ← next_at ending bytes
  row_from payload (λ names rest. row_at payload ending steps names rest) taken bytes next.0 next.1

-- a row of which nothing is read yet
abbrev pub whole_row_at : (Kind → List ℕ → Read Tag) → Ending → List ℕ → Read (List Named)
whole_row_at payload ending bytes = row_at payload ending (length bytes + 1) none_taken bytes

-- a compound whose tags are read by `payload`
unfoldable pub compound_in : (Kind → List ℕ → Read Tag) → List ℕ → Read Tag
compound_in payload bytes = do
  row ← whole_row_at payload endings.Zero bytes
  Ok (tags.Compound row.0, row.1)

-- ---- trees

-- lists and compounds where this many levels of them may still stand in one another
unfoldable pub nested_at : ℕ → Nested
nested_at zero = record { list = λ bytes. Err (flaw_at Deep bytes); compound = λ bytes. Err (flaw_at Deep bytes) }
nested_at (suc levels) = record { list = list_in (content (nested_at levels)); compound = compound_in (content (nested_at levels)) }

abbrev pub payload_at : ℕ → Kind → List ℕ → Read Tag
payload_at levels = content (nested_at levels)

-- a named tag with its type byte
unfoldable pub root_at : List ℕ → Read Named
root_at bytes = do
  kind ← kind_at bytes
  entry_at (payload_at max_depth kind.0) none_taken bytes kind.1

-- nothing stands behind what was read
unfoldable pub ended : {A : Type 0} → A → List ℕ → Result A Flaw
ended x [] = Ok x
ended x (byte ∷ rest) = Err (flaw_at Trailing (byte ∷ rest))

-- a named tag that is all of the bytes
unfoldable pub whole_root : List ℕ → Result Named Flaw
whole_root bytes = do
  root ← root_at bytes
  ended root.0 root.1

-- a row that is all of the bytes, as a compound of that depth has it
unfoldable pub whole_row : ℕ → List ℕ → Result (List Named) Flaw
whole_row depth bytes = do
  row ← whole_row_at (payload_at (max_depth - depth)) endings.Input bytes
  Ok row.0

-- ---- faults

-- the fault of a cause at a place
abbrev pub fault_at : Cause → ℕ → NbtFault
fault_at Short at = faults.Short at
fault_at BadType at = faults.BadType at
fault_at BadCount at = faults.BadCount at
fault_at Duplicate at = faults.Duplicate at
fault_at Deep at = faults.Deep at
fault_at Trailing at = faults.Trailing at

-- a fault by its place, in bytes of that length
abbrev pub placed : ℕ → Flaw → NbtFault
placed size flaw = fault_at flaw.cause (size - flaw.left)

-- the fault of a reader that failed, in bytes of that length
abbrev pub fault_of : ℕ → Failure → NbtFault
fault_of size failures.Memory = faults.Memory
fault_of size (failures.Flaw flaw) = placed size flaw

abbrev pub with_places : {A : Type 0} → ℕ → Result A Flaw → Result A NbtFault
with_places size (Ok x) = Ok x
with_places size (Err flaw) = Err (placed size flaw)

-- the named tag that is all of the bytes, or their first fault
abbrev pub decoded : List ℕ → Result Named NbtFault
decoded bytes = with_places (length bytes) (whole_root bytes)

-- the row that is all of the bytes, in a compound of that depth, or their first fault
abbrev pub decoded_row : ℕ → List ℕ → Result (List Named) NbtFault
decoded_row depth bytes = with_places (length bytes) (whole_row depth bytes)

-- the row that is all of the bytes, if they spell one
abbrev pub row_spelled : ℕ → List ℕ → Option (List Named)
row_spelled depth bytes = result_ok (whole_row depth bytes)

-- ---- answers

-- What a reader answered, seen by view, is what reading gives, or an allocation was refused.
abbrev pub Fails : {Y : Type 0} → Failure → Result Y Flaw → Type 0
Fails failures.Memory read = Unit {0}
Fails (failures.Flaw flaw) read = read ≡ Err flaw

abbrev pub Gives : {X Y : Type 0} → (X → Y) → Result X Failure → Result Y Flaw → Type 0
Gives view (Ok x) read = read ≡ Ok (view x)
Gives view (Err e) read = Fails e read

-- What a public reader answered is what reading gives, or an allocation was refused.
abbrev pub IsAnswer : {A : Type 0} → Result A NbtFault → Result A NbtFault → Type 0
IsAnswer (Err faults.Memory) read = Unit {0}
IsAnswer answer read = read ≡ answer
