-- In which box a region lies: its bounding box, before it is cut by the box of the world.
use Rattle.std.specs.Prelude.{◌≡◌, ℕ, zero, suc, ◌+◌, ◌*◌, ◌^◌, ◌<◌, ◌≤◌, nat_le, true, if◌then◌else◌, ℤ, pos, negsuc, nat_abs, ◌+ℤ◌, ◌-ℤ◌, FitsSigned, ⊤}
use Rattle.std.specs.Int.{w32, int_min, int_max}
use Rattle.edit_terms.specs.declared.pos.Pos.{Pos}
use Rattle.edit_terms.specs.declared.direction.Direction.{Direction}
use Rattle.edit_terms.specs.declared.direction.Direction.TheVariants.{North, South, East, West, Up, Down}
use Rattle.edit_terms.specs.declared.region.Kind.{Kind}
use Rattle.edit_terms.specs.declared.region.Kind.TheVariants.{Cuboid, Sphere, Cylinder}
use Rattle.edit_terms.specs.declared.region.Selection.{Selection}
use Rattle.edit_terms.specs.declared.region.Region.{Region}
use Rattle.edit_terms.specs.declared.region.Region.TheVariants.{Selected, Walls, Faces, Ball, Tube}
use Rattle.edit_terms.specs.Area.{Area, holds}
use Rattle.edit_terms.specs.Region.{distance, flat_distance, is_inside}

-- adds the binary digit of this value to a root where the square stays within n
abbrev pub with_digit : ℕ → ℕ → ℕ → ℕ
with_digit n digit r = if nat_le ((r + digit) * (r + digit)) n then r + digit else r

-- the root r of n with so many binary digits more, from the highest to the lowest
abbrev pub root_from : ℕ → ℕ → ℕ → ℕ
root_from n zero r = r
root_from n (suc digits) r = root_from n digits (with_digit n (2 ^ digits) r)

-- The square root of a number below 2 ^ 68, rounded down, as `root_is_greatest` says. The squared distance of
-- two positions is below 2 ^ 66.
unfoldable pub root : ℕ → ℕ
root n = root_from n 34 0

-- r is the greatest whole number whose square is at most n
pub record IsRoot (n r : ℕ) : Type 0 where
  pub within : r * r ≤ n
  pub greatest : n < (r + 1) * (r + 1)

-- how many coordinates there are from the one to the other
abbrev pub count_between : ℤ → ℤ → ℕ
count_between a b = nat_abs (a -ℤ b) + 1

-- the box of the positions at most so far from the centre over x and z, at so many heights from this one up
abbrev pub disc_frame : Pos → ℕ → ℤ → ℕ → Area
disc_frame centre reach low height = record {
  least = record { x = centre.x -ℤ pos reach; y = low; z = centre.z -ℤ pos reach };
  width = 2 * reach + 1;
  height = height;
  length = 2 * reach + 1;
}

-- the box of the positions at most so far from the centre on each axis
abbrev pub ball_frame : Pos → ℕ → Area
ball_frame centre reach = disc_frame centre reach (centre.y -ℤ pos reach) (2 * reach + 1)

-- the bounding box of a selection of this shape with these two positions
abbrev pub shape_frame : Kind → Pos → Pos → Area
shape_frame Cuboid first second = record {
  least = record { x = int_min first.x second.x; y = int_min first.y second.y; z = int_min first.z second.z };
  width = count_between first.x second.x;
  height = count_between first.y second.y;
  length = count_between first.z second.z;
}
shape_frame Sphere first second = ball_frame first (root (nat_abs (distance first second)))
shape_frame Cylinder first second = disc_frame first (root (nat_abs (flat_distance first second))) (int_min first.y second.y) (count_between first.y second.y)

abbrev pub frame_of_selection : Selection → Area
frame_of_selection s = shape_frame s.kind s.first s.second

-- The bounding box of a region; walls, faces and hollow shapes have that of the whole shape. It may reach
-- beyond the map.
abbrev pub frame_of : Region → Area
frame_of (Selected s) = frame_of_selection s
frame_of (Walls s) = frame_of_selection s
frame_of (Faces s) = frame_of_selection s
frame_of (Ball centre radius hollow) = ball_frame centre radius
frame_of (Tube centre radius height hollow) = disc_frame centre radius centre.y height

-- the coordinates fit 32 bits, as those of each position in code
pub record IsPosition (p : Pos) : Type 0 where
  pub x : FitsSigned w32 p.x
  pub y : FitsSigned w32 p.y
  pub z : FitsSigned w32 p.z

-- both positions of the selection do
pub record IsSelection (s : Selection) : Type 0 where
  pub first : IsPosition s.first
  pub second : IsPosition s.second

-- the selection, where the region is made of one, has such positions
abbrev pub IsRegion : Region → Type 0
IsRegion (Selected s) = IsSelection s
IsRegion (Walls s) = IsSelection s
IsRegion (Faces s) = IsSelection s
IsRegion (Ball centre radius hollow) = ⊤
IsRegion (Tube centre radius height hollow) = ⊤

-- every position of the region lies in its frame
abbrev pub IsFramed : Region → Type 0
IsFramed region = (p : Pos) → is_inside region p ≡ true → holds (frame_of region) p ≡ true

-- how many numbers lie above 0 and not above this one
abbrev pub count_up_to : ℤ → ℕ
count_up_to (pos n) = n
count_up_to (negsuc n) = 0

-- how many coordinates are both among the m numbers from a on and among the n numbers from b on
abbrev pub common_count : ℤ → ℕ → ℤ → ℕ → ℕ
common_count a m b n = count_up_to (int_min (a +ℤ pos m) (b +ℤ pos n) -ℤ int_max a b)

-- The box of the positions that two boxes have in common; where they have none, one of its sizes is 0.
abbrev pub common_box : Area → Area → Area
common_box a b = record {
  least = record { x = int_max a.least.x b.least.x; y = int_max a.least.y b.least.y; z = int_max a.least.z b.least.z };
  width = common_count a.least.x a.width b.least.x b.width;
  height = common_count a.least.y a.height b.least.y b.height;
  length = common_count a.least.z a.length b.least.z b.length;
}

-- how many blocks a box has along a direction
abbrev pub size_along : Direction → Area → ℕ
size_along North a = a.length
size_along South a = a.length
size_along East a = a.width
size_along West a = a.width
size_along Up a = a.height
size_along Down a = a.height
