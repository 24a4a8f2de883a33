-- A clipboard: the blocks of a selection as they stood when they were copied, at positions relative to a
-- placement position, turned.
use Rattle.std.specs.Prelude.{ℕ, Bool, false, ◌==◌, ◌&&◌, if◌then◌else◌, ℤ, pos, ◌+ℤ◌, ◌-ℤ◌, neg_ℤ, Option, Some, None}
use Rattle.std.specs.Int.{int_rem_euclid}
use Rattle.std.specs.Option.{option_map_or, unwrap_or}
use Rattle.edit_terms.specs.declared.pos.Pos.{Pos}
use Rattle.edit_terms.specs.declared.direction.Direction.{Direction}
use Rattle.edit_terms.specs.declared.direction.Direction.TheVariants.{North, South, East, West, Up, Down}
use Rattle.edit_terms.specs.declared.transform.Transform.{Transform}
use Rattle.edit_terms.specs.declared.clip.Clip.{Clip}
use Rattle.edit_terms.specs.Area.{Area, holds, volume}
use Rattle.edit_terms.specs.Region.{is_selected}
use Rattle.edit_terms.specs.Frame.{frame_of_selection, common_box}
use Rattle.edit_terms.specs.World.{BlockContent, World, content_at}
use Rattle.edit_terms.specs.Transform.{transformed, source_position, turned_content}

-- a position counted from another
abbrev pub relative_to : Pos → Pos → Pos
relative_to origin p = record { x = p.x -ℤ origin.x; y = p.y -ℤ origin.y; z = p.z -ℤ origin.z }

-- the position that is so far from another
abbrev pub placed_at : Pos → Pos → Pos
placed_at origin r = record { x = origin.x +ℤ r.x; y = origin.y +ℤ r.y; z = origin.z +ℤ r.z }

-- minus the greatest of the size coordinates from low on, of which there is one
abbrev pub mirrored : ℤ → ℕ → ℤ
mirrored low size = neg_ℤ (low +ℤ pos size -ℤ pos 1)

-- the box of the positions of a box after a quarter turn, and after a flip
abbrev pub quarter_turned_area : Area → Area
quarter_turned_area a = record { least = record { x = mirrored a.least.z a.length; y = a.least.y; z = a.least.x }; width = a.length; height = a.height; length = a.width }

abbrev pub flipped_area : Direction → Area → Area
flipped_area North a = record a { least = record a.least { z = mirrored a.least.z a.length } }
flipped_area South a = record a { least = record a.least { z = mirrored a.least.z a.length } }
flipped_area East a = record a { least = record a.least { x = mirrored a.least.x a.width } }
flipped_area West a = record a { least = record a.least { x = mirrored a.least.x a.width } }
flipped_area Up a = record a { least = record a.least { y = mirrored a.least.y a.height } }
flipped_area Down a = record a { least = record a.least { y = mirrored a.least.y a.height } }

-- the box of the positions of a box after a transform
abbrev pub turned_area : Transform → Area → Area
turned_area t a = transformed quarter_turned_area flipped_area t a

-- The bounds of a clipboard: the bounding box of its selection, cut by the world's box, relative to the position
-- from which it was copied, and turned. None where that box has no block of the world.
abbrev pub clip_box_of : Clip → Area → Option Area
clip_box_of clip area =
    let shared = common_box (frame_of_selection clip.from) area in
    if volume shared == 0 then None
    else Some (turned_area clip.transform (record shared { least = relative_to clip.origin shared.least }))

-- A clipboard's bounds, and its content at each relative position that it has one at.
pub record CopiedBlocks : Type 0 where
  pub bounds : Option Area
  pub at : Pos → Option BlockContent

-- there are bounds, and the relative position lies in them
abbrev pub is_in_bounds : CopiedBlocks → Pos → Bool
is_in_bounds copied r = option_map_or (λ bounds. holds bounds r) copied.bounds false

-- a clipboard without blocks
abbrev pub no_blocks : CopiedBlocks
no_blocks = record { bounds = None; at = λ r. None }

-- the position of the world whose block a clipboard has at a relative position
abbrev pub copied_from : Clip → Pos → Pos
copied_from clip r = placed_at clip.origin (source_position clip.transform r)

-- the turned content of a selected position of the world
abbrev pub copied_content : Clip → World → Pos → Option BlockContent
copied_content clip w r =
    let p = copied_from clip r in
    if is_selected clip.from p && holds w.area p then Some (turned_content clip.transform (content_at w p)) else None

-- the clipboard over the world that it was copied from
abbrev pub clipboard_of : Clip → World → CopiedBlocks
clipboard_of clip w = record { bounds = clip_box_of clip w.area; at = copied_content clip w }

-- the coordinate of a tile: from the least on, by the remainder of the coordinate by the size
abbrev pub tile_coordinate : ℤ → ℕ → ℤ → ℤ
tile_coordinate low size v = low +ℤ int_rem_euclid v (pos size)

-- The position of these bounds that a position of the world has when they are repeated in each direction; the
-- remainders are not negative.
abbrev pub tile_of : Area → Pos → Pos
tile_of bounds p = record {
  x = tile_coordinate bounds.least.x bounds.width p.x;
  y = tile_coordinate bounds.least.y bounds.height p.y;
  z = tile_coordinate bounds.least.z bounds.length p.z;
}

-- the content of a clipboard repeated in each direction, and the old one where it has none
abbrev pub tiled : CopiedBlocks → Pos → BlockContent → BlockContent
tiled copied p old = option_map_or (λ bounds. unwrap_or (copied.at (tile_of bounds p)) old) copied.bounds old
