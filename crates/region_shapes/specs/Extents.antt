-- Extents: boxes of positions by an interval on each axis. They may reach beyond the map, and may be empty.
use Rattle.std.specs.Prelude.{◌&&◌, ◌||◌, Bool, pos, negsuc, ◌≤ℤ◌}
use Rattle.edit_terms.specs.declared.pos.Pos.{Pos}
use Rattle.edit_terms.specs.Area.{Area}
use Rattle.region_shapes.specs.declared.interval.Interval.{Interval}
use Rattle.region_shapes.specs.declared.extent.Extent.{Extent}
use Rattle.region_shapes.specs.Interval.{is_among, is_empty, size, numbers_from, common, IsNear}

-- the coordinates of a box
abbrev pub extent_of : Area → Extent
extent_of a = record {
  x = numbers_from a.least.x a.width;
  y = numbers_from a.least.y a.height;
  z = numbers_from a.least.z a.length;
}

-- the box of an extent: where it is empty, one of its sizes is 0
abbrev pub box_of : Extent → Area
box_of e = record {
  least = record { x = e.x.from; y = e.y.from; z = e.z.from };
  width = size e.x;
  height = size e.y;
  length = size e.z;
}

abbrev pub is_in_extent : Extent → Pos → Bool
is_in_extent e p = is_among e.x p.x && is_among e.y p.y && is_among e.z p.z

-- it has no position
abbrev pub is_without : Extent → Bool
is_without e = is_empty e.x || is_empty e.y || is_empty e.z

-- the positions of both
abbrev pub common_extent : Extent → Extent → Extent
common_extent e f = record { x = common e.x f.x; y = common e.y f.y; z = common e.z f.z }

-- the ends on each axis are at most 2 ^ 36 from 0
pub record IsExtentNear (e : Extent) : Type 0 where
  pub x : IsNear e.x
  pub y : IsNear e.y
  pub z : IsNear e.z

-- the interval doesn't reach beyond the map
pub record IsPartOfMap (i : Interval) : Type 0 where
  pub from : negsuc 33554431 ≤ℤ i.from
  pub to : i.to ≤ℤ pos 33554432

-- on each axis
pub record IsExtentOnMap (e : Extent) : Type 0 where
  pub x : IsPartOfMap e.x
  pub y : IsPartOfMap e.y
  pub z : IsPartOfMap e.z
