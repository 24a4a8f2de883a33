-- Where a work may change the world: by coordinates, and by the places of the list of the box's blocks.
use Rattle.std.specs.Prelude.{◌≡◌, ℕ, ◌-◌, ◌<◌, ◌≤◌, ◌/◌, ◌%◌, ◌*◌, Bool, true, false, ◌&&◌, nat_le, nat_lt, pos, negsuc, neg_ℤ, Option}
use Rattle.std.specs.Option.{option_map_or}
use Rattle.edit_terms.specs.declared.direction.Direction.{Direction}
use Rattle.edit_terms.specs.declared.direction.Direction.TheVariants.{North, South, East, West, Up, Down}
use Rattle.edit_terms.specs.declared.pos.Pos.{Pos}
use Rattle.edit_terms.specs.declared.region.Selection.{Selection}
use Rattle.edit_terms.specs.Area.{Area, position_of, volume}
use Rattle.edit_terms.specs.Neighbour.{away}
use Rattle.edit_terms.specs.Region.{is_selected}
use Rattle.edit_terms.specs.World.{BlockContent, World}
use Rattle.clipboard_transform.specs.Bounds.{IsOnMap}
use Rattle.region_shapes.specs.declared.extent.Extent.{Extent}
use Rattle.region_shapes.specs.declared.interval.Interval.{Interval}
use Rattle.region_shapes.specs.Extents.{is_in_extent}
use Rattle.run_terms.specs.Change.{content_of}
use Rattle.plain_effects.specs.declared.section.Span.{Span}
use Rattle.plain_effects.specs.declared.section.Section.{Section}

-- there is an extent, and the position lies in it
abbrev pub is_in_some : Option Extent → Pos → Bool
is_in_some extent p = option_map_or (λ e. is_in_extent e p) extent false

-- every position that passes the test lies in the extent
abbrev pub HasAll : Option Extent → (Pos → Bool) → Type 0
HasAll extent test = (p : Pos) → test p ≡ true → is_in_some extent p ≡ true

-- what is to stand in a world differs from what stands there only in the extent
abbrev pub StaysOutside : Option Extent → (ℕ → BlockContent) → World → Type 0
StaysOutside extent to w = (index : ℕ) → index < volume w.area → is_in_some extent (position_of w.area index) ≡ false → to index ≡ content_of w index

-- an extent with all that lies on from it in a direction, up to the map's end
abbrev pub strip_of : Direction → Extent → Extent
strip_of North e = record e { z = record { from = negsuc 33554431; to = e.z.to } }
strip_of South e = record e { z = record { from = e.z.from; to = pos 33554432 } }
strip_of East e = record e { x = record { from = e.x.from; to = pos 33554432 } }
strip_of West e = record e { x = record { from = negsuc 33554431; to = e.x.to } }
strip_of Up e = record e { y = record { from = e.y.from; to = pos 2048 } }
strip_of Down e = record e { y = record { from = negsuc 2047; to = e.y.to } }

-- the extent has each position of the map to which a selected one is brought in a direction, however far
abbrev pub HasBrought : Extent → Selection → Direction → Type 0
HasBrought e from to = (n : ℕ) (p : Pos) → IsOnMap p → is_selected from (away to (neg_ℤ (pos n)) p) ≡ true → is_in_extent e p ≡ true

-- the interval of an extent along a direction
abbrev pub along : Direction → Extent → Interval
along North e = e.z
along South e = e.z
along East e = e.x
along West e = e.x
along Up e = e.y
along Down e = e.y

-- an offset lies in the span
abbrev pub is_in_span : Span → ℕ → Bool
is_in_span s n = nat_le s.from n && nat_lt n s.to

-- how many offsets lie in the span
abbrev pub span_size : Span → ℕ
span_size s = s.to - s.from

-- a place of the list lies in the section, by the offsets of its block from the least corner
abbrev pub is_in_section : Area → Section → ℕ → Bool
is_in_section a s index = is_in_span s.x (index % a.width) && is_in_span s.y (index / (a.width * a.length)) && is_in_span s.z (index / a.width % a.length)

-- the span's ends are at most this size
pub record IsSpanOf (size : ℕ) (s : Span) : Type 0 where
  pub from : s.from ≤ size
  pub to : s.to ≤ size

-- the section is one of the box
pub record IsSectionOf (a : Area) (s : Section) : Type 0 where
  pub x : IsSpanOf a.width s.x
  pub y : IsSpanOf a.height s.y
  pub z : IsSpanOf a.length s.z

-- the section has each block of the box that lies in the extent
abbrev pub HasExtent : Area → Section → Extent → Type 0
HasExtent a s e = (index : ℕ) → index < volume a → is_in_extent e (position_of a index) ≡ true → is_in_section a s index ≡ true
