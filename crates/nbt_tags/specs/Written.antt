-- The one spelling that is written, where an empty list has the count 0.
use Rattle.std.specs.Prelude.{ℕ, ℤ, List, [], ◌∷◌, ◌++◌, length}
use Rattle.std.specs.Int.{w8, w16, w32, w64, cast_unsigned}
use Rattle.std.specs.List.{flat_map}
use Rattle.byteorder.specs.Endian.{big_bytes}
use Rattle.nbt_tags.specs.declared.tag.Tag.{Tag, fold-Tag}
use Rattle.nbt_tags.specs.declared.tag.Tag.TheOpen as layer
use Rattle.nbt_tags.specs.declared.tag.Named.{Named, fold-Named}
use Rattle.nbt_tags.specs.Kinds.{type_byte, layer_kind}

-- a tag's type byte and its payload
pub record Written : Type 0 where
  pub byte : ℕ
  pub payload : List ℕ

-- a count of four bytes
abbrev pub count_bytes : ℕ → List ℕ
count_bytes count = big_bytes 4 count

-- a count, and the bytes of each item
abbrev pub array_bytes : {A : Type 0} → (A → List ℕ) → List A → List ℕ
array_bytes one items = count_bytes (length items) ++ flat_map one items

-- a signed number of four bytes, and of eight
abbrev pub int_bytes : ℤ → List ℕ
int_bytes z = big_bytes 4 (cast_unsigned w32 z)

abbrev pub long_bytes : ℤ → List ℕ
long_bytes z = big_bytes 8 (cast_unsigned w64 z)

-- a name or a string
abbrev pub text_bytes : List ℕ → List ℕ
text_bytes text = big_bytes 2 (length text) ++ text

-- the payload of one level, where the tags inside and the named tags inside are written already
abbrev pub payload_bytes : layer.Tag-F Written (List ℕ) → List ℕ
payload_bytes (layer.Byte z) = big_bytes 1 (cast_unsigned w8 z)
payload_bytes (layer.Short z) = big_bytes 2 (cast_unsigned w16 z)
payload_bytes (layer.Int z) = int_bytes z
payload_bytes (layer.Long z) = long_bytes z
payload_bytes (layer.Float bits) = big_bytes 4 bits
payload_bytes (layer.Double bits) = big_bytes 8 bits
payload_bytes (layer.ByteArray items) = count_bytes (length items) ++ items
payload_bytes (layer.Str text) = text_bytes text
payload_bytes (layer.List element items) = element ∷ array_bytes (λ item. item.payload) items
payload_bytes (layer.Compound row) = flat_map (λ entry. entry) row ++ 0 ∷ []
payload_bytes (layer.IntArray items) = array_bytes int_bytes items
payload_bytes (layer.LongArray items) = array_bytes long_bytes items

abbrev pub tag_step : layer.Tag-F Written (List ℕ) → Written
tag_step level = record { byte = type_byte (layer_kind level); payload = payload_bytes level }

-- a named tag: its type byte, its name, and its payload
abbrev pub named_step : layer.Named-F Written (List ℕ) → List ℕ
named_step entry = entry.tag.byte ∷ (text_bytes entry.name ++ entry.tag.payload)

abbrev pub written_tag : Tag → Written
written_tag = fold-Tag Written (List ℕ) tag_step named_step

-- the bytes that are written for a tag behind its name
abbrev pub written_payload : Tag → List ℕ
written_payload tag = (written_tag tag).payload

-- the bytes that are written for a named tag
abbrev pub written : Named → List ℕ
written = fold-Named Written (List ℕ) tag_step named_step

-- the bytes that are written for a row of named tags, as it stands between the braces of a compound
abbrev pub written_row : List Named → List ℕ
written_row row = flat_map written row
