-- Writing a schematic (Sponge Schematic Specification 2): the one tree that is written, and its bytes.
use Rattle.std.specs.Prelude.{ℕ, ℤ, pos, ◌+◌, List, [], ◌∷◌, ◌++◌, length, map, Option, option_map, option_to_list, codes}
use Rattle.std.specs.List.{flat_map}
use Rattle.std.specs.Int.{w16, cast_signed}
use Rattle.edit_terms.specs.declared.pos.Pos.{Pos}
use Rattle.edit_terms.specs.Area.{Area}
use Rattle.edit_terms.specs.StateText.{State, written_state}
use Rattle.edit_terms.specs.Same.{same_state}
use Rattle.edit_terms.specs.World.{World}
use Rattle.block_palette.specs.Numbering.{distinct, numbers}
use Rattle.nbt_tags.specs.declared.tag.Tag.{Tag}
use Rattle.nbt_tags.specs.declared.tag.Tag.TheVariants as tags
use Rattle.nbt_tags.specs.declared.tag.Named.{Named}
use Rattle.nbt_tags.specs.Reading.{named}
use Rattle.nbt_tags.specs.Written.{written}
use Rattle.block_entities.specs.Spreading.{block_entities}
use Rattle.sponge_schematic.specs.Carried.{CarriedTags}
use Rattle.sponge_schematic.specs.Varint.{varint}

-- the states of a world's blocks, in index order
abbrev pub states_of : World → List State
states_of w = map (λ c. c.state) w.contents

-- the palette: each state of the world once, by first appearance in index order
abbrev pub states_once : World → List State
states_once w = distinct same_state (states_of w)

-- the block data: for each block in index order the shortest varint of its state's number in the palette
abbrev pub block_data : World → List ℕ
block_data w = flat_map varint (numbers same_state (states_of w))

-- a palette's entry: an Int that is named by the state's text and holds its number
abbrev pub entry_tag : ℕ → State → Named
entry_tag number s = named (written_state s) (tags.Int (pos number))

-- the palette's entries from this number on
abbrev pub entry_tags : ℕ → List State → List Named
entry_tags number [] = []
entry_tags number (s ∷ states) = entry_tag number s ∷ entry_tags (number + 1) states

-- a size as a Short, whose 16 bits are read as unsigned
abbrev pub size_tag : ℕ → Tag
size_tag size = tags.Short (cast_signed w16 size)

abbrev pub corner_tag : Pos → Tag
corner_tag p = tags.IntArray (p.x ∷ p.y ∷ p.z ∷ [])

-- the tags of the versions and of the box
abbrev pub box_tags : ℤ → Area → List Named
box_tags data_version a =
    named (codes "Version") (tags.Int (pos 2))
    ∷ named (codes "DataVersion") (tags.Int data_version)
    ∷ named (codes "Width") (size_tag a.width)
    ∷ named (codes "Height") (size_tag a.height)
    ∷ named (codes "Length") (size_tag a.length)
    ∷ named (codes "Offset") (corner_tag a.least)
    ∷ []

-- the tags of the blocks
abbrev pub block_tags : List State → List ℕ → List Named
block_tags palette bytes =
    named (codes "PaletteMax") (tags.Int (pos (length palette)))
    ∷ named (codes "Palette") (tags.Compound (entry_tags 0 palette))
    ∷ named (codes "BlockData") (tags.ByteArray bytes)
    ∷ []

-- the tag BlockEntities, where it is written
abbrev pub entity_tags : Option Tag → List Named
entity_tags list = option_to_list (option_map (named (codes "BlockEntities")) list)

-- the tags that the writer writes itself: those of versions, box and blocks, then BlockEntities where it is written
unfoldable pub own_tags : CarriedTags → World → List Named
own_tags carried w =
    box_tags carried.data_version w.area
    ++ block_tags (states_once w) (block_data w)
    ++ entity_tags (block_entities w carried.loose carried.element)

-- The named tags of a file's root: the writer's own, then each other tag that was read, in its order.
unfoldable pub file_row : CarriedTags → World → List Named
file_row carried w = own_tags carried w ++ carried.others

-- The tree of a file.
unfoldable pub schematic_tree : CarriedTags → World → Named
schematic_tree carried w = named (codes "Schematic") (tags.Compound (file_row carried w))

-- The bytes of a file: the one written spelling of its tree.
unfoldable pub schematic_bytes : CarriedTags → World → List ℕ
schematic_bytes carried w = written (schematic_tree carried w)
