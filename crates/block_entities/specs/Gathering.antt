-- What the list BlockEntities says of the blocks of a box.
use Rattle.std.specs.Prelude.{◌≡◌, ℕ, ◌-◌, Bool, true, false, ◌==◌, List, [], ◌∷◌, Option, option_map, is_none, filter, find, reverse, map}
use Rattle.std.specs.Option.{option_map_or}
use Rattle.std.specs.declared.sync.Arc.{Arc}
use Rattle.std.specs.declared.alloc.Global.{Global}
use Rattle.std.specs.Arc.{arc_value}
use Rattle.edit_terms.specs.declared.pos.Pos.{Pos}
use Rattle.edit_terms.specs.Area.{Area, position_of}
use Rattle.edit_terms.specs.World.{EntityTags}
use Rattle.nbt_tags.specs.declared.tag.Tag.{Tag, out-Tag}
use Rattle.nbt_tags.specs.declared.tag.Tag.TheOpen as layer
use Rattle.nbt_tags.specs.Spelling.{Layer, max_depth}
use Rattle.nbt_tags.specs.WellFormed.{IsSoundTag}
use Rattle.block_entities.specs.Entry.{place_of, tags_of_entry}

abbrev pub items_in : Layer → List Tag
items_in (layer.List element items) = items
items_in _ = []

-- the items of a list, and none of any other tag
abbrev pub items_of : Tag → List Tag
items_of tag = items_in (out-Tag tag)

abbrev pub is_entry_list_in : Layer → Bool
is_entry_list_in (layer.List element []) = true
is_entry_list_in (layer.List element (t ∷ ts)) = element == 10
is_entry_list_in _ = false

-- the tag is a list that is empty or of compounds
abbrev pub is_entry_list : Tag → Bool
is_entry_list tag = is_entry_list_in (out-Tag tag)

-- What BlockEntities may be: a list that is empty or of compounds, well formed inside the root.
pub record IsEntryList (list : Tag) : Type 0 where
  pub kind : is_entry_list list ≡ true
  pub sound : IsSoundTag (max_depth - 1) list

-- the entry names the block at this place of the box's list
abbrev pub names_place : Area → ℕ → Tag → Bool
names_place area index entry = option_map_or (λ place. place == index) (place_of area entry) false

-- The entity of the block at a place of the box's list: that of the last entry which names the block.
abbrev pub entity_at : Area → List Tag → ℕ → Option EntityTags
entity_at area entries index = option_map tags_of_entry (find (names_place area index) (reverse entries))

-- The entries that name no block of the box, in their order.
abbrev pub loose_of : Area → List Tag → List Tag
loose_of area entries = filter (λ entry. is_none (place_of area entry)) entries

-- the entities that stand at positions, through what shares them
abbrev pub placed : List (Pos × Arc EntityTags Global) → List (Pos × EntityTags)
placed entities = map (λ e. (e.0, arc_value e.1)) entities

-- the same from places of the box's list
abbrev pub positioned : Area → List (ℕ × Arc EntityTags Global) → List (Pos × EntityTags)
positioned area entities = map (λ e. (position_of area e.0, arc_value e.1)) entities
