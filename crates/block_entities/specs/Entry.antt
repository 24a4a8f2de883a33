-- An entry of the list BlockEntities (Sponge Schematic Specification 2): a compound with the named tags of one
-- block entity. The one that is named Pos says where its block stands, counted from the box's least corner.
use Rattle.std.specs.Prelude.{ℕ, Bool, ◌∷◌, List, [], Option, None, Some, if◌then◌else◌, codes, find}
use Rattle.std.specs.List.{before_first, after_first}
use Rattle.std.specs.Option.{option_and_then}
use Rattle.std.specs.Str.{bytes_eq}
use Rattle.edit_terms.specs.declared.pos.Pos.{Pos}
use Rattle.edit_terms.specs.Area.{Area, holds, index_of}
use Rattle.edit_terms.specs.Clipboard.{placed_at}
use Rattle.edit_terms.specs.World.{EntityTags}
use Rattle.nbt_tags.specs.declared.tag.Tag.{Tag, out-Tag}
use Rattle.nbt_tags.specs.declared.tag.Tag.TheOpen as layer
use Rattle.nbt_tags.specs.declared.tag.Named.{Named}
use Rattle.nbt_tags.specs.Spelling.{Layer, name_of, tag_of}
use Rattle.nbt_tags.specs.Written.{written_row}

-- the named tags in one level of a tag
abbrev pub row_in : Layer → List Named
row_in (layer.Compound row) = row
row_in _ = []

-- the named tags of a compound, and none of any other tag
abbrev pub row_of : Tag → List Named
row_of tag = row_in (out-Tag tag)

abbrev pub position_in : Layer → Option Pos
position_in (layer.IntArray (x ∷ y ∷ z ∷ [])) = Some (record { x = x; y = y; z = z })
position_in _ = None

-- the position that an array of three numbers is
abbrev pub position_of_tag : Tag → Option Pos
position_of_tag tag = position_in (out-Tag tag)

-- the tag is named Pos
abbrev pub is_pos : Named → Bool
is_pos named = bytes_eq (name_of named) (codes "Pos")

-- what an entry's Pos says, if it is an array of three numbers
abbrev pub local_position : Tag → Option Pos
local_position entry = option_and_then (λ named. position_of_tag (tag_of named)) (find is_pos (row_of entry))

-- the place, in the list of the box's blocks, of the block that is so far from the least corner
abbrev pub place_from_corner : Area → Pos → Option ℕ
place_from_corner area local =
    let p = placed_at area.least local in
    if holds area p then Some (index_of area p) else None

-- The place of the block that an entry names, if it names one of the box.
abbrev pub place_of : Area → Tag → Option ℕ
place_of area entry = option_and_then (place_from_corner area) (local_position entry)

-- The entity of an entry that has a Pos: its other tags, before and after the place of Pos.
abbrev pub tags_of_entry : Tag → EntityTags
tags_of_entry entry = record {
  before = written_row (before_first is_pos (row_of entry));
  after = written_row (after_first is_pos (row_of entry));
}
