-- Which positions belong to a selection or to a region (the selections and shapes of WorldEdit 7; what exactly
-- belongs to spheres, cylinders, walls and faces are rules of this project).
use Rattle.std.specs.Prelude.{◌≡◌, ℕ, ◌+◌, ◌*◌, Bool, true, not, ◌&&◌, ◌||◌, if◌then◌else◌, List, ℤ, pos, ◌+ℤ◌, ◌-ℤ◌, ◌*ℤ◌, int_le}
use Rattle.std.specs.List.{list_all}
use Rattle.edit_terms.specs.declared.pos.Pos.{Pos}
use Rattle.edit_terms.specs.declared.direction.Direction.{Direction}
use Rattle.edit_terms.specs.declared.region.Kind.{Kind}
use Rattle.edit_terms.specs.declared.region.Kind.TheVariants.{Cuboid, Sphere, Cylinder}
use Rattle.edit_terms.specs.declared.region.Selection.{Selection}
use Rattle.edit_terms.specs.declared.region.Region.{Region}
use Rattle.edit_terms.specs.declared.region.Region.TheVariants.{Selected, Walls, Faces, Ball, Tube}
use Rattle.edit_terms.specs.Area.{is_from}
use Rattle.edit_terms.specs.Neighbour.{neighbour, horizontal, directions}

-- the coordinate is one of the two or lies between them
abbrev pub is_between : ℤ → ℤ → ℤ → Bool
is_between a b v = (int_le a v && int_le v b) || (int_le b v && int_le v a)

-- the square of the difference of two coordinates
abbrev pub squared_gap : ℤ → ℤ → ℤ
squared_gap a b = (a -ℤ b) *ℤ (a -ℤ b)

-- the square of the distance of two positions over x and z
abbrev pub flat_distance : Pos → Pos → ℤ
flat_distance p q = squared_gap p.x q.x +ℤ squared_gap p.z q.z

-- the square of the distance of two positions
abbrev pub distance : Pos → Pos → ℤ
distance p q = flat_distance p q +ℤ squared_gap p.y q.y

-- the position belongs to a selection of this shape with these two positions
abbrev pub is_in_shape : Kind → Pos → Pos → Pos → Bool
is_in_shape Cuboid first second p = is_between first.x second.x p.x && is_between first.y second.y p.y && is_between first.z second.z p.z
is_in_shape Sphere first second p = int_le (distance first p) (distance first second)
is_in_shape Cylinder first second p = int_le (flat_distance first p) (flat_distance first second) && is_between first.y second.y p.y

abbrev pub is_selected : Selection → Pos → Bool
is_selected s p = is_in_shape s.kind s.first s.second p

-- The squared distance is at most the square of a radius and a half: 4 d ≤ (2 r + 1) ^ 2.
abbrev pub is_in_reach : ℕ → ℤ → Bool
is_in_reach radius d = int_le (pos 4 *ℤ d) (pos ((2 * radius + 1) * (2 * radius + 1)))

-- the position belongs to the ball of this centre and radius
abbrev pub is_in_ball : Pos → ℕ → Pos → Bool
is_in_ball centre radius p = is_in_reach radius (distance centre p)

-- the position belongs to the upright cylinder of this radius, from the centre's height so many blocks up
abbrev pub is_in_tube : Pos → ℕ → ℕ → Pos → Bool
is_in_tube centre radius height p = is_in_reach radius (flat_distance centre p) && is_from centre.y height p.y

-- The position belongs to the shape and has a neighbour in one of these directions that doesn't.
abbrev pub is_at_edge : List Direction → (Pos → Bool) → Pos → Bool
is_at_edge to shape p = shape p && not (list_all (λ d. shape (neighbour d p)) to)

-- the position belongs to the whole shape that a region is, or is the walls, faces or shell of
abbrev pub is_in_whole : Region → Pos → Bool
is_in_whole (Selected s) p = is_selected s p
is_in_whole (Walls s) p = is_selected s p
is_in_whole (Faces s) p = is_selected s p
is_in_whole (Ball centre radius hollow) p = is_in_ball centre radius p
is_in_whole (Tube centre radius height hollow) p = is_in_tube centre radius height p

-- The position belongs to the region. Walls, faces and hollow shapes ask the whole shape at the position and
-- at its neighbours.
abbrev pub is_inside : Region → Pos → Bool
is_inside (Selected s) p = is_selected s p
is_inside (Walls s) p = is_at_edge horizontal (is_selected s) p
is_inside (Faces s) p = is_at_edge directions (is_selected s) p
is_inside (Ball centre radius hollow) p = if hollow then is_at_edge directions (is_in_ball centre radius) p else is_in_ball centre radius p
is_inside (Tube centre radius height hollow) p = if hollow then is_at_edge horizontal (is_in_tube centre radius height) p else is_in_tube centre radius height p

-- walls, faces and hollow shapes are parts of their whole shape
abbrev pub IsPartOfWhole : Region → Type 0
IsPartOfWhole region = (p : Pos) → is_inside region p ≡ true → is_in_whole region p ≡ true
