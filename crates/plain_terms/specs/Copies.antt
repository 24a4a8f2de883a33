-- Where a clipboard is looked up.
use Rattle.std.specs.Prelude.{◌&&◌, if◌then◌else◌, Option, Some, None, ◌≤ℤ◌, ◌-ℤ◌, ◌+ℤ◌, ℤ, pos, negsuc}
use Rattle.std.specs.Int.{int_rem_euclid}
use Rattle.edit_terms.specs.declared.pos.Pos.{Pos}
use Rattle.edit_terms.specs.declared.clip.Clip.{Clip}
use Rattle.edit_terms.specs.Area.{Area, holds}
use Rattle.edit_terms.specs.Region.{is_selected}
use Rattle.edit_terms.specs.World.{BlockContent, World, content_at}
use Rattle.edit_terms.specs.Clipboard.{copied_from}
use Rattle.clipboard_transform.specs.declared.relative_box.RelativeBox.{RelativeBox}
use Rattle.plain_terms.specs.Places.{IsBlockOf}

-- Relative positions farther out than this are none of two positions of the map; turns and flips keep the box.
abbrev pub reach : Area
reach = record { least = record { x = negsuc 134217727; y = negsuc 134217727; z = negsuc 134217727 }; width = 268435457; height = 268435457; length = 268435457 }

-- a box by its corners has a block
pub record IsBox (b : RelativeBox) : Type 0 where
  pub x : b.least.x ≤ℤ b.greatest.x
  pub y : b.least.y ≤ℤ b.greatest.y
  pub z : b.least.z ≤ℤ b.greatest.z

-- the coordinate of a tile whose coordinates lie between two
abbrev pub tile_between : ℤ → ℤ → ℤ → ℤ
tile_between least greatest v = least +ℤ int_rem_euclid v (greatest -ℤ least +ℤ pos 1)

-- the position of a tile that a position of the world has, where the tile is given by its corners
abbrev pub tile_in : RelativeBox → Pos → Pos
tile_in b p = record {
  x = tile_between b.least.x b.greatest.x p.x;
  y = tile_between b.least.y b.greatest.y p.y;
  z = tile_between b.least.z b.greatest.z p.z;
}

-- this is the block of the box that a clipboard has at a relative position
abbrev pub IsCopiedFrom : Clip → Area → Pos → Pos → Type 0
IsCopiedFrom clip a r p = IsBlockOf a (copied_from clip r) p

-- the content that a clipboard has at a relative position, before it is turned
abbrev pub original : Clip → World → Pos → Option BlockContent
original clip w r = let p = copied_from clip r in if is_selected clip.from p && holds w.area p then Some (content_at w p) else None
