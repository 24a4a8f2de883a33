-- The named tags that a schematic must have (Sponge Schematic Specification 2), and what each must hold. They are
-- looked up by name among the tags of the root.
use Rattle.std.specs.Prelude.{ℕ, ℤ, Bool, List, Option, option_map, Result, Ok, Err, codes, find}
use Rattle.std.specs.Option.{ok_or}
use Rattle.std.specs.Str.{bytes_eq}
use Rattle.std.specs.Int.{w16, cast_unsigned}
use Rattle.nbt_tags.specs.declared.tag.Tag.{Tag, out-Tag}
use Rattle.nbt_tags.specs.declared.tag.Tag.TheOpen as layer
use Rattle.nbt_tags.specs.declared.tag.Named.{Named}
use Rattle.nbt_tags.specs.Spelling.{Layer, name_of, tag_of}
use Rattle.sponge_schematic.specs.declared.fault.Field.{Field}
use Rattle.sponge_schematic.specs.declared.fault.Field.TheVariants.{Version, DataVersion, Width, Height, Length, Offset, Palette, BlockData, BlockEntities}
use Rattle.sponge_schematic.specs.declared.fault.WorldFault.{WorldFault}
use Rattle.sponge_schematic.specs.declared.fault.WorldFault.TheVariants as faults

-- one look at a file after another, up to the first fault
infixl 10 ◌>>=◌
abbrev pub ◌>>=◌ : {A B : Type 0} → Result A WorldFault → (A → Result B WorldFault) → Result B WorldFault
(Ok x) >>= f = f x
(Err e) >>= f = Err e

abbrev pub field_name : Field → List ℕ
field_name Version = codes "Version"
field_name DataVersion = codes "DataVersion"
field_name Width = codes "Width"
field_name Height = codes "Height"
field_name Length = codes "Length"
field_name Offset = codes "Offset"
field_name Palette = codes "Palette"
field_name BlockData = codes "BlockData"
field_name BlockEntities = codes "BlockEntities"

abbrev pub has_name : List ℕ → Named → Bool
has_name name tag = bytes_eq (name_of tag) name

-- the tag of this name
abbrev pub tag_named : List ℕ → List Named → Option Tag
tag_named name row = option_map tag_of (find (has_name name) row)

-- the tag of a field, which must be there
abbrev pub required : Field → List Named → Result Tag WorldFault
required field row = ok_or (tag_named (field_name field) row) (faults.Missing field)

-- the number of an Int
abbrev pub int_in : Field → Layer → Result ℤ WorldFault
int_in field (layer.Int z) = Ok z
int_in field _ = Err (faults.WrongType field)

abbrev pub int_of : Field → Tag → Result ℤ WorldFault
int_of field tag = int_in field (out-Tag tag)

-- the number of a Short, read as unsigned
abbrev pub size_in : Field → Layer → Result ℕ WorldFault
size_in field (layer.Short z) = Ok (cast_unsigned w16 z)
size_in field _ = Err (faults.WrongType field)

abbrev pub size_of : Field → Tag → Result ℕ WorldFault
size_of field tag = size_in field (out-Tag tag)

-- the bytes of a ByteArray
abbrev pub bytes_in : Field → Layer → Result (List ℕ) WorldFault
bytes_in field (layer.ByteArray bytes) = Ok bytes
bytes_in field _ = Err (faults.WrongType field)

abbrev pub bytes_of : Field → Tag → Result (List ℕ) WorldFault
bytes_of field tag = bytes_in field (out-Tag tag)

-- the named tags of a Compound
abbrev pub row_in : Field → Layer → Result (List Named) WorldFault
row_in field (layer.Compound row) = Ok row
row_in field _ = Err (faults.WrongType field)

abbrev pub row_of : Field → Tag → Result (List Named) WorldFault
row_of field tag = row_in field (out-Tag tag)

-- the number of the Int, and of the Short, that a field is
unfoldable pub int_field : Field → List Named → Result ℤ WorldFault
int_field field row = do
  tag ← required field row
  int_of field tag

unfoldable pub size_field : Field → List Named → Result ℕ WorldFault
size_field field row = do
  tag ← required field row
  size_of field tag
