-- What a schematic says before its blocks: the version of the game's data, and the box. The checks come in the order
-- in which they stand here.
use Rattle.std.specs.Prelude.{ℕ, ◌==◌, ℤ, pos, ◌||◌, nat_lt, if◌then◌else◌, List, [], ◌∷◌, Option, Some, None, Result, Ok, Err, codes}
use Rattle.std.specs.Ordering.{int_eq}
use Rattle.edit_terms.specs.declared.pos.Pos.{Pos}
use Rattle.edit_terms.specs.Area.{Area, volume, is_part, map_area}
use Rattle.nbt_tags.specs.declared.tag.Tag.{Tag, out-Tag}
use Rattle.nbt_tags.specs.declared.tag.Tag.TheOpen as layer
use Rattle.nbt_tags.specs.declared.tag.Named.{Named}
use Rattle.nbt_tags.specs.Spelling.{Layer}
use Rattle.sponge_schematic.specs.declared.fault.Field.TheVariants as fields
use Rattle.sponge_schematic.specs.declared.fault.WorldFault.{WorldFault}
use Rattle.sponge_schematic.specs.declared.fault.WorldFault.TheVariants as faults
use Rattle.sponge_schematic.specs.Fields.{◌>>=◌, int_field, size_field, tag_named}

-- the format's version is 2
abbrev pub version_two : ℤ → Result (Unit {0}) WorldFault
version_two version = if int_eq version (pos 2) then Ok tt else Err (faults.Version version)

-- the version of the game's data, which is looked at behind the format's version
unfoldable pub data_version_of : List Named → Result ℤ WorldFault
data_version_of row = do
  version ← int_field fields.Version row
  is_two ← version_two version
  int_field fields.DataVersion row

-- the corner at the origin
abbrev pub origin : Pos
origin = record { x = pos 0; y = pos 0; z = pos 0 }

-- a box of these sizes, whose corner isn't known yet
abbrev pub sized : ℕ → ℕ → ℕ → Area
sized width height len = record { least = origin; width = width; height = height; length = len }

-- no size is 0
abbrev pub some_blocks : Area → Result (Unit {0}) WorldFault
some_blocks a = if a.width == 0 || a.height == 0 || a.length == 0 then Err faults.Empty else Ok tt

-- the box has at most 33,554,432 blocks
abbrev pub few_blocks : Area → Result (Unit {0}) WorldFault
few_blocks a = if nat_lt 33554432 (volume a) then Err (faults.TooLarge (volume a)) else Ok tt

-- the sizes, each a Short that is read as unsigned
unfoldable pub sizes_of : List Named → Result Area WorldFault
sizes_of row = do
  width ← size_field fields.Width row
  height ← size_field fields.Height row
  len ← size_field fields.Length row
  some ← some_blocks (sized width height len)
  few ← few_blocks (sized width height len)
  Ok (sized width height len)

-- the corner that an array of three numbers is
abbrev pub corner_in : Layer → Result Pos WorldFault
corner_in (layer.IntArray (x ∷ y ∷ z ∷ [])) = Ok (record { x = x; y = y; z = z })
corner_in _ = Err (faults.WrongType fields.Offset)

-- the box's least corner: 0,0,0 where the file gives none
abbrev pub corner_of : Option Tag → Result Pos WorldFault
corner_of None = Ok origin
corner_of (Some tag) = corner_in (out-Tag tag)

-- each block of the box is on the map
abbrev pub on_map : Area → Result Area WorldFault
on_map a = if is_part a map_area then Ok a else Err faults.OutOfRange

-- the box
unfoldable pub area_of : List Named → Result Area WorldFault
area_of row = do
  sizes ← sizes_of row
  least ← corner_of (tag_named (codes "Offset") row)
  on_map (record sizes { least = least })
