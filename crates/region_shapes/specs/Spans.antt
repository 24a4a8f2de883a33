-- Spans: runs of positions along x, and what the spans of a region in a box are.
use Rattle.std.specs.Prelude.{◌≡◌, ℕ, ◌+◌, ◌<◌, ◌≤◌, ◌&&◌, Bool, true, false, List, [], ◌∷◌, map, pos, ◌+ℤ◌}
use Rattle.std.specs.List.{range_with_len, flat_map, filter}
use Rattle.edit_terms.specs.declared.pos.Pos.{Pos}
use Rattle.edit_terms.specs.declared.direction.Direction.TheVariants.{West}
use Rattle.edit_terms.specs.declared.region.Region.{Region}
use Rattle.edit_terms.specs.Area.{Area, holds, offset, index_of, position_of, volume}
use Rattle.edit_terms.specs.Neighbour.{neighbour}
use Rattle.edit_terms.specs.Region.{is_inside}
use Rattle.region_shapes.specs.declared.span.Span.{Span}

-- the position so many blocks to the east
abbrev pub along : Pos → ℕ → Pos
along p i = record { x = p.x +ℤ pos i; y = p.y; z = p.z }

-- the positions of a span from west to east
abbrev pub positions_of : Span → List Pos
positions_of s = map (along s.least) (range_with_len 0 s.count)

-- the positions of spans, one span behind the other
abbrev pub all_positions : List Span → List Pos
all_positions spans = flat_map positions_of spans

-- the positions of a box in index order
abbrev pub positions_in : Area → List Pos
positions_in a = map (position_of a) (range_with_len 0 (volume a))

-- the positions of a box that belong to a region, in index order
abbrev pub region_positions : Region → Area → List Pos
region_positions region a = filter (is_inside region) (positions_in a)

-- the position belongs to the region and to the box
abbrev pub is_filled : Region → Area → Pos → Bool
is_filled region a p = is_inside region p && holds a p

-- The span isn't empty, and neither the position west of it nor the one east of it belongs to the region and the box.
pub record IsMaximal (region : Region) (a : Area) (s : Span) : Type 0 where
  pub some : 0 < s.count
  pub west : is_filled region a (neighbour West s.least) ≡ false
  pub east : is_filled region a (along s.least s.count) ≡ false

-- The span lies in one row of the box, and doesn't begin before a place in the box's index order.
pub record IsSpanFrom (a : Area) (least : ℕ) (s : Span) : Type 0 where
  pub held : holds a s.least ≡ true
  pub room : offset a.least.x s.least.x + s.count ≤ a.width
  pub from : least ≤ index_of a s.least

-- The spans rise in the box's index order from a place on: each lies in one row of the box, and doesn't begin before
-- the place at which the one before it ends.
abbrev pub RiseFrom : Area → ℕ → List Span → Type 0
RiseFrom a least [] = Unit {0}
RiseFrom a least (s ∷ spans) = IsSpanFrom a least s × RiseFrom a (index_of a s.least + s.count) spans
