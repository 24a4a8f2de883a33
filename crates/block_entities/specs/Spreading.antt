-- The list BlockEntities that is written for a world.
use Rattle.std.specs.Prelude.{ℕ, ◌++◌, ◌∷◌, [], List, Option, None, Some, option_map, get_or}
use Rattle.std.specs.List.{filter_map, range_with_len}
use Rattle.edit_terms.specs.Area.{Area, position_of, volume}
use Rattle.edit_terms.specs.Clipboard.{relative_to}
use Rattle.edit_terms.specs.World.{EntityTags, World, air_content}
use Rattle.nbt_tags.specs.declared.tag.Tag.{Tag}
use Rattle.nbt_tags.specs.declared.tag.Tag.TheVariants as tags
use Rattle.block_entities.specs.FileEntities.{row_of_entity}

-- The entry of an entity of the block at a place of the box's list: the tags before Pos, Pos, and the tags after.
abbrev pub entry_of : Area → ℕ → EntityTags → Tag
entry_of area index e = tags.Compound (row_of_entity e (relative_to area.least (position_of area index)))

-- the entry of the block at a place, if it has an entity
abbrev pub entry_at : World → ℕ → Option Tag
entry_at w index = option_map (entry_of w.area index) (get_or w.contents index air_content).entity

-- the entries of a world's blocks, in index order
abbrev pub entries_of : World → List Tag
entries_of w = filter_map (entry_at w) (range_with_len 0 (volume w.area))

-- The list of these entries. Without entries it is written where it was read, and keeps its element type.
abbrev pub list_of : Option ℕ → List Tag → Option Tag
list_of None [] = None
list_of (Some element) [] = Some (tags.List element [])
list_of _ (t ∷ ts) = Some (tags.List 10 (t ∷ ts))

-- The tag BlockEntities of a world and of loose entries, where it is written: the entries of the world's blocks, and
-- then the loose ones. The element type is that of the list which was read, None where none was.
abbrev pub block_entities : World → List Tag → Option ℕ → Option Tag
block_entities w loose element = list_of element (entries_of w ++ loose)
