-- Reading a schematic (Sponge Schematic Specification 2): what a file gives, or its first fault. The order of the
-- checks is the order of the lines of `schematic_of` and of the definitions that it names.
use Rattle.std.specs.Prelude.{ℕ, ℤ, Bool, true, false, not, ◌==◌, ◌||◌, ◌&&◌, List, [], ◌∷◌, Option, Some, None, Result, Ok, Err, map, filter, get_or, codes, option_map, if◌then◌else◌}
use Rattle.std.specs.List.{range_with_len}
use Rattle.std.specs.Str.{bytes_eq}
use Rattle.edit_terms.specs.Area.{Area, volume}
use Rattle.edit_terms.specs.StateText.{State, air}
use Rattle.edit_terms.specs.World.{World, BlockContent}
use Rattle.nbt_tags.specs.declared.fault.NbtFault.{NbtFault}
use Rattle.nbt_tags.specs.declared.tag.Tag.{Tag, out-Tag}
use Rattle.nbt_tags.specs.declared.tag.Tag.TheOpen as layer
use Rattle.nbt_tags.specs.declared.tag.Named.{Named}
use Rattle.nbt_tags.specs.Spelling.{Layer, name_of, tag_of}
use Rattle.nbt_tags.specs.Reading.{decoded}
use Rattle.block_entities.specs.Gathering.{is_entry_list, items_of, entity_at, loose_of}
use Rattle.sponge_schematic.specs.declared.fault.Field.TheVariants as fields
use Rattle.sponge_schematic.specs.declared.fault.WorldFault.{WorldFault}
use Rattle.sponge_schematic.specs.declared.fault.WorldFault.TheVariants as faults
use Rattle.sponge_schematic.specs.Fields.{◌>>=◌, tag_named, field_name}
use Rattle.sponge_schematic.specs.Header.{data_version_of, area_of}
use Rattle.sponge_schematic.specs.Palette.{palette_of}
use Rattle.sponge_schematic.specs.BlockData.{cells_of}
use Rattle.sponge_schematic.specs.Carried.{CarriedTags, Loaded}

-- ---- the root

-- the first two bytes are those of a compressed file
abbrev pub is_compressed : List ℕ → Bool
is_compressed (a ∷ b ∷ bytes) = a == 0x1F && b == 0x8B
is_compressed _ = false

-- the root, or the fault of the bytes as named tags
abbrev pub from_nbt : Result Named NbtFault → Result Named WorldFault
from_nbt (Ok root) = Ok root
from_nbt (Err fault) = Err (faults.Nbt fault)

-- the named tags of a Compound that is named Schematic
abbrev pub row_named : Bool → Layer → Result (List Named) WorldFault
row_named true (layer.Compound row) = Ok row
row_named _ _ = Err faults.NotSchematic

unfoldable pub schematic_row : Named → Result (List Named) WorldFault
schematic_row root = row_named (bytes_eq (name_of root) (codes "Schematic")) (out-Tag (tag_of root))

-- the named tags of a file's root
unfoldable pub root_row : List ℕ → Result (List Named) WorldFault
root_row bytes = if is_compressed bytes then Err faults.Compressed else (from_nbt (decoded bytes) >>= schematic_row)

-- ---- block entities

-- the list BlockEntities, where it is there, which is empty or of compounds
abbrev pub entry_list : Option Tag → Result (Option Tag) WorldFault
entry_list None = Ok None
entry_list (Some list) = if is_entry_list list then Ok (Some list) else Err (faults.WrongType fields.BlockEntities)

-- its entries, none where it isn't there
abbrev pub entries_in : Option Tag → List Tag
entries_in None = []
entries_in (Some list) = items_of list

-- its element type
abbrev pub element_in : Layer → ℕ
element_in (layer.List element items) = element
element_in _ = 0

abbrev pub element_of : Tag → ℕ
element_of list = element_in (out-Tag list)

-- ---- the whole

-- the names of the tags that a file's writer writes itself: those of the versions, of the box and of the blocks
abbrev pub is_version_name : List ℕ → Bool
is_version_name name = bytes_eq name (codes "Version") || bytes_eq name (codes "DataVersion")

abbrev pub is_box_name : List ℕ → Bool
is_box_name name =
    bytes_eq name (codes "Width") || bytes_eq name (codes "Height") || bytes_eq name (codes "Length") || bytes_eq name (codes "Offset")

abbrev pub is_block_name : List ℕ → Bool
is_block_name name =
    bytes_eq name (codes "PaletteMax") || bytes_eq name (codes "Palette") || bytes_eq name (codes "BlockData") || bytes_eq name (codes "BlockEntities")

abbrev pub is_own_name : List ℕ → Bool
is_own_name name = is_version_name name || is_box_name name || is_block_name name

-- the tags that are carried through unread
abbrev pub others_of : List Named → List Named
others_of row = filter (λ tag. not (is_own_name (name_of tag))) row

-- the content of the block at a place of the box's list: the state at the palette's place for it, and its entity
abbrev pub content_in : Area → List State → List ℕ → List Tag → ℕ → BlockContent
content_in area states cells entries index = record { state = get_or states (get_or cells index 0) air; entity = entity_at area entries index }

-- the world of a box, the palette's states, the palette's place for each cell, and the entries of BlockEntities
abbrev pub world_in : Area → List State → List ℕ → List Tag → World
world_in area states cells entries = record { area = area; contents = map (content_in area states cells entries) (range_with_len 0 (volume area)) }

-- What the named tags of a root give: the version of the game's data, the box, the palette's states, the palette's
-- place for each cell, and the list BlockEntities, where it is there.
pub record Parts : Type 0 where
  pub data_version : ℤ
  pub area : Area
  pub states : List State
  pub cells : List ℕ
  pub list : Option Tag

-- the parts, or the first fault of the named tags
unfoldable pub parts_of : List Named → Result Parts WorldFault
parts_of row = do
  data_version ← data_version_of row
  area ← area_of row
  palette ← palette_of row
  cells ← cells_of palette.numbers (volume area) row
  list ← entry_list (tag_named (field_name fields.BlockEntities) row)
  Ok (record { data_version = data_version; area = area; states = palette.states; cells = cells; list = list })

-- what was read beside the world
abbrev pub carried_in : Parts → List Named → CarriedTags
carried_in parts row = record {
  data_version = parts.data_version;
  element = option_map element_of parts.list;
  loose = loose_of parts.area (entries_in parts.list);
  others = others_of row;
}

-- what was read
abbrev pub loaded_in : Parts → List Named → Loaded
loaded_in parts row = record { carried = carried_in parts row; world = world_in parts.area parts.states parts.cells (entries_in parts.list) }

-- What a file's bytes give, or their first fault.
unfoldable pub schematic_of : List ℕ → Result Loaded WorldFault
schematic_of bytes = do
  row ← root_row bytes
  parts ← parts_of row
  Ok (loaded_in parts row)
