-- The rows of a region along x, by the height and the coordinate z of the row: the interval of the whole shape, and
-- the inner part that walls, faces and hollow shapes leave out. `RowLemmas` proves that they are the rows of
-- `is_inside`.
use Rattle.std.specs.Prelude.{ℕ, ◌+◌, ◌-◌, ◌*◌, ◌^◌, ◌<◌, ◌&&◌, nat_le, if◌then◌else◌, ℤ, pos, nat_abs, ◌+ℤ◌, ◌-ℤ◌}
use Rattle.edit_terms.specs.declared.pos.Pos.{Pos}
use Rattle.edit_terms.specs.declared.region.Kind.{Kind}
use Rattle.edit_terms.specs.declared.region.Kind.TheVariants.{Cuboid, Sphere, Cylinder}
use Rattle.edit_terms.specs.declared.region.Region.{Region}
use Rattle.edit_terms.specs.declared.region.Region.TheVariants.{Selected, Walls, Faces, Ball, Tube}
use Rattle.edit_terms.specs.Area.{is_from}
use Rattle.edit_terms.specs.Region.{is_between, flat_distance, distance}
use Rattle.edit_terms.specs.Frame.{root}
use Rattle.region_shapes.specs.declared.interval.Interval.{Interval}
use Rattle.region_shapes.specs.Interval.{nowhere, between, around, common, shrunk, squared}

-- the numbers whose squared distance from the middle is at most what of the limit isn't used up
abbrev pub disc_row : ℤ → ℕ → ℕ → Interval
disc_row middle limit used = if nat_le used limit then around middle (root (limit - used)) else nowhere

-- the greatest squared distance within a radius and a half: 4 (r * r + r) is the greatest multiple of 4 that is
-- at most (2 r + 1) ^ 2
abbrev pub reach_limit : ℕ → ℕ
reach_limit radius = radius * radius + radius

abbrev pub cuboid_row : Pos → Pos → ℤ → ℤ → Interval
cuboid_row first second y z =
    if is_between first.y second.y y && is_between first.z second.z z
    then between first.x second.x else nowhere

abbrev pub sphere_row : Pos → Pos → ℤ → ℤ → Interval
sphere_row first second y z = disc_row first.x (nat_abs (distance first second)) (squared first.z z + squared first.y y)

abbrev pub cylinder_row : Pos → Pos → ℤ → ℤ → Interval
cylinder_row first second y z =
    if is_between first.y second.y y then disc_row first.x (nat_abs (flat_distance first second)) (squared first.z z) else nowhere

abbrev pub shape_row : Kind → Pos → Pos → ℤ → ℤ → Interval
shape_row Cuboid first second y z = cuboid_row first second y z
shape_row Sphere first second y z = sphere_row first second y z
shape_row Cylinder first second y z = cylinder_row first second y z

abbrev pub ball_row : Pos → ℕ → ℤ → ℤ → Interval
ball_row centre radius y z = disc_row centre.x (reach_limit radius) (squared centre.z z + squared centre.y y)

abbrev pub tube_row : Pos → ℕ → ℕ → ℤ → ℤ → Interval
tube_row centre radius height y z =
    if is_from centre.y height y then disc_row centre.x (reach_limit radius) (squared centre.z z) else nowhere

-- the row of the whole shape that a region is, or is the walls, faces or shell of
abbrev pub whole_row : Region → ℤ → ℤ → Interval
whole_row (Selected s) y z = shape_row s.kind s.first s.second y z
whole_row (Walls s) y z = shape_row s.kind s.first s.second y z
whole_row (Faces s) y z = shape_row s.kind s.first s.second y z
whole_row (Ball centre radius hollow) y z = ball_row centre radius y z
whole_row (Tube centre radius height hollow) y z = tube_row centre radius height y z

-- The numbers of a row whose neighbours north, south, east and west all belong to the shape of these rows: those
-- of the rows to the north and south that are among its own without the ends.
abbrev pub walled : (ℤ → ℤ → Interval) → ℤ → ℤ → Interval
walled row y z = common (shrunk (row y z)) (common (row y (z -ℤ pos 1)) (row y (z +ℤ pos 1)))

-- the same with the neighbours above and below
abbrev pub enclosed : (ℤ → ℤ → Interval) → ℤ → ℤ → Interval
enclosed row y z = common (walled row y z) (common (row (y +ℤ pos 1) z) (row (y -ℤ pos 1) z))

-- the part of the whole shape's row that doesn't belong to the region
abbrev pub core_row : Region → ℤ → ℤ → Interval
core_row (Selected s) y z = nowhere
core_row (Walls s) y z = walled (shape_row s.kind s.first s.second) y z
core_row (Faces s) y z = enclosed (shape_row s.kind s.first s.second) y z
core_row (Ball centre radius hollow) y z = if hollow then enclosed (ball_row centre radius) y z else nowhere
core_row (Tube centre radius height hollow) y z = if hollow then walled (tube_row centre radius height) y z else nowhere

-- the greatest squared distance that a region's shape asks for, as numbers in code have it, is one that has a root
abbrev pub IsBounded : Region → Type 0
IsBounded (Selected s) = nat_abs (distance s.first s.second) < 2 ^ 68
IsBounded (Walls s) = nat_abs (distance s.first s.second) < 2 ^ 68
IsBounded (Faces s) = nat_abs (distance s.first s.second) < 2 ^ 68
IsBounded (Ball centre radius hollow) = reach_limit radius < 2 ^ 68
IsBounded (Tube centre radius height hollow) = reach_limit radius < 2 ^ 68
