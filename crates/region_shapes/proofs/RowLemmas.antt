-- The rows of regions are the rows of their positions.
--
-- A test of squared distances, at given y and z, is a test of x by a root. Whether the neighbours of a position belong
-- to a shape is told by the shape's rows at theirs.
use Rattle.std.proofs.Common.{◌≡◌, ℕ, ◌+◌, ◌-◌, ◌*◌, ◌^◌, ◌<◌, ◌≤◌, ◌⊎◌, ◌≤ℤ◌, Bool, true, false, inl, inr, cond, ◌&&◌, ℤ, pos, ◌+ℤ◌, ◌-ℤ◌, refl, sym, ◌∙◌, ap, arith}
use Rattle.std.specs.Prelude.{nat_abs, nat_le, int_le, not}
use Rattle.std.proofs.lemmas.Bool.{leb-true, leb-false}
use Rattle.std.proofs.lemmas.Bool.Decides.{nat_tests}
use Rattle.std.proofs.lemmas.Int.{ints}
use Rattle.edit_terms.specs.declared.pos.Pos.{Pos}
use Rattle.edit_terms.specs.declared.direction.Direction.TheVariants.{North, South, East, West, Up, Down}
use Rattle.edit_terms.specs.declared.region.Kind.{Kind}
use Rattle.edit_terms.specs.declared.region.Kind.TheVariants.{Cuboid, Sphere, Cylinder}
use Rattle.edit_terms.specs.declared.region.Region.{Region}
use Rattle.edit_terms.specs.declared.region.Region.TheVariants.{Selected, Walls, Faces, Ball, Tube}
use Rattle.edit_terms.specs.Area.{is_from}
use Rattle.edit_terms.specs.Neighbour.{neighbour, horizontal, directions}
use Rattle.edit_terms.specs.Region.{is_between, flat_distance, distance, is_in_shape, is_in_reach, is_in_ball, is_in_tube, is_at_edge, is_selected, is_in_whole, is_inside}
use Rattle.edit_terms.specs.Frame.{root}
use Rattle.edit_terms.proofs.RegionLemmas.{flat_squares, squares, root_is}
use Rattle.region_shapes.specs.declared.interval.Interval.{Interval}
use Rattle.region_shapes.specs.Interval.{is_among, nowhere, between, around, common, shrunk, squared}
use Rattle.region_shapes.specs.Rows.{disc_row, reach_limit, cuboid_row, sphere_row, cylinder_row, shape_row, ball_row, tube_row, whole_row, walled, enclosed, core_row, IsBounded}
use Rattle.region_shapes.proofs.Squares.{flat_distance_abs, distance_abs, within_root}

-- no number is nowhere
pub among_nowhere : (v : ℤ) → is_among nowhere v ≡ false
among_nowhere v = grind (arith, ints)

among_around : (m v : ℤ) (r : ℕ) → is_among (around m r) v ≡ nat_le (nat_abs (m -ℤ v)) r
among_around m v r = grind (arith, ints)

-- taking away what is used up from both sides of a test
used_up : (n limit used : ℕ) → used ≤ limit → nat_le (n + used) limit ≡ nat_le n (limit - used)
used_up n limit used h = grind (arith, nat_tests)

too_much : (n limit used : ℕ) → limit < used → nat_le (n + used) limit ≡ false
too_much n limit used h = grind (arith, nat_tests)

disc_cases : (m v : ℤ) (limit used : ℕ) (b : Bool) → limit < 2 ^ 68 → nat_le used limit ≡ b
    → nat_le (squared m v + used) limit ≡ is_among (cond b (around m (root (limit - used))) nowhere) v
disc_cases m v limit used true small test =
    let room : used ≤ limit = leb-true used limit test in
    used_up (squared m v) limit used room
    ∙ within_root (limit - used) (root (limit - used)) (nat_abs (m -ℤ v)) (root_is (limit - used) (omega (arith, small)))
    ∙ sym (among_around m v (root (limit - used)))
disc_cases m v limit used false small test =
    too_much (squared m v) limit used (leb-false used limit test) ∙ sym (among_nowhere v)

-- a test of a squared distance is one of the row's interval
pub disc_row-among : (m v : ℤ) (limit used : ℕ) → limit < 2 ^ 68 → nat_le (squared m v + used) limit ≡ is_among (disc_row m limit used) v
disc_row-among m v limit used small = disc_cases m v limit used (nat_le used limit) small refl

-- where one test decides whether there is a row at all
gated : (b c : Bool) (i : Interval) (v : ℤ) → c ≡ is_among i v → (c && b) ≡ is_among (cond b i nowhere) v
gated true c i v h = grind (arith, h)
gated false c i v h = grind (arith, among_nowhere v)

between_ends : (a b v : ℤ) → is_between a b v ≡ is_among (between a b) v
between_ends a b v = grind (arith, ints)

and_last : (x y z : Bool) → (x && y && z) ≡ (x && (y && z))
and_last x y z = grind arith

cuboid_row-among : (first second p : Pos) → is_in_shape Cuboid first second p ≡ is_among (cuboid_row first second p.y p.z) p.x
cuboid_row-among first second p =
    and_last (is_between first.x second.x p.x) (is_between first.y second.y p.y) (is_between first.z second.z p.z)
    ∙ gated (is_between first.y second.y p.y && is_between first.z second.z p.z) (is_between first.x second.x p.x) (between first.x second.x) p.x (between_ends first.x second.x p.x)

-- the squares of a distance, that along x first
sum_first : (x y z : ℕ) → x + z + y ≡ x + (z + y)
sum_first x y z = omega arith

distance_test : (c p : Pos) (limit : ℕ) → int_le (distance c p) (pos limit) ≡ nat_le (squared c.x p.x + (squared c.z p.z + squared c.y p.y)) limit
distance_test c p limit =
    ap (λ d. int_le d (pos limit)) (squares c p)
    ∙ ap (λ n. nat_le n limit) (sum_first (squared c.x p.x) (squared c.y p.y) (squared c.z p.z))

flat_test : (c p : Pos) (limit : ℕ) → int_le (flat_distance c p) (pos limit) ≡ nat_le (squared c.x p.x + squared c.z p.z) limit
flat_test c p limit = ap (λ d. int_le d (pos limit)) (flat_squares c p)

distance_is_abs : (p q : Pos) → distance p q ≡ pos (nat_abs (distance p q))
distance_is_abs p q = rw (squares p q) refl

flat_distance_is_abs : (p q : Pos) → flat_distance p q ≡ pos (nat_abs (flat_distance p q))
flat_distance_is_abs p q = rw (flat_squares p q) refl

sphere_row-among : (first second p : Pos) → nat_abs (distance first second) < 2 ^ 68 → is_in_shape Sphere first second p ≡ is_among (sphere_row first second p.y p.z) p.x
sphere_row-among first second p small =
    ap (λ d. int_le (distance first p) d) (distance_is_abs first second)
    ∙ distance_test first p (nat_abs (distance first second))
    ∙ disc_row-among first.x p.x (nat_abs (distance first second)) (squared first.z p.z + squared first.y p.y) small

flat_below : (p q : Pos) → nat_abs (distance p q) < 2 ^ 68 → nat_abs (flat_distance p q) < 2 ^ 68
flat_below p q small = omega (arith, flat_distance_abs p q, distance_abs p q)

cylinder_row-among : (first second p : Pos) → nat_abs (distance first second) < 2 ^ 68 → is_in_shape Cylinder first second p ≡ is_among (cylinder_row first second p.y p.z) p.x
cylinder_row-among first second p small =
    let limit = nat_abs (flat_distance first second) in
    let flat : int_le (flat_distance first p) (flat_distance first second) ≡ is_among (disc_row first.x limit (squared first.z p.z)) p.x =
    ap (λ d. int_le (flat_distance first p) d) (flat_distance_is_abs first second)
    ∙ flat_test first p limit
    ∙ disc_row-among first.x p.x limit (squared first.z p.z) (flat_below first second small) in
    gated (is_between first.y second.y p.y) (int_le (flat_distance first p) (flat_distance first second)) (disc_row first.x limit (squared first.z p.z)) p.x flat

shape_row-among : (kind : Kind) (first second p : Pos) → nat_abs (distance first second) < 2 ^ 68 → is_in_shape kind first second p ≡ is_among (shape_row kind first second p.y p.z) p.x
shape_row-among Cuboid first second p small = cuboid_row-among first second p
shape_row-among Sphere first second p small = sphere_row-among first second p small
shape_row-among Cylinder first second p small = cylinder_row-among first second p small

-- 4 n is at most (2 r + 1) ^ 2 exactly where n is at most r ^ 2 + r
reach_test : (r n : ℕ) → nat_le (4 * n) ((2 * r + 1) * (2 * r + 1)) ≡ nat_le n (reach_limit r)
reach_test r n =
    let odd : (2 * r + 1) * (2 * r + 1) ≡ 4 * (r * r + r) + 1 = omega arith in
    rw odd (quarter n (r * r + r))
  where
    quarter : (n m : ℕ) → nat_le (4 * n) (4 * m + 1) ≡ nat_le n m
    quarter n m = grind (arith, nat_tests)

ball_row-among : (centre : Pos) (r : ℕ) (p : Pos) → reach_limit r < 2 ^ 68 → is_in_ball centre r p ≡ is_among (ball_row centre r p.y p.z) p.x
ball_row-among centre r p small =
    ap (is_in_reach r) (squares centre p)
    ∙ reach_test r (squared centre.x p.x + squared centre.z p.z + squared centre.y p.y)
    ∙ ap (λ n. nat_le n (reach_limit r)) (sum_first (squared centre.x p.x) (squared centre.y p.y) (squared centre.z p.z))
    ∙ disc_row-among centre.x p.x (reach_limit r) (squared centre.z p.z + squared centre.y p.y) small

tube_row-among : (centre : Pos) (r height : ℕ) (p : Pos) → reach_limit r < 2 ^ 68 → is_in_tube centre r height p ≡ is_among (tube_row centre r height p.y p.z) p.x
tube_row-among centre r height p small =
    let flat : is_in_reach r (flat_distance centre p) ≡ is_among (disc_row centre.x (reach_limit r) (squared centre.z p.z)) p.x =
    ap (is_in_reach r) (flat_squares centre p)
    ∙ reach_test r (squared centre.x p.x + squared centre.z p.z)
    ∙ disc_row-among centre.x p.x (reach_limit r) (squared centre.z p.z) small in
    gated (is_from centre.y height p.y) (is_in_reach r (flat_distance centre p)) (disc_row centre.x (reach_limit r) (squared centre.z p.z)) p.x flat

-- a position belongs to the whole shape exactly where its x is in the row
pub whole_row-among : (region : Region) → IsBounded region → (p : Pos) → is_in_whole region p ≡ is_among (whole_row region p.y p.z) p.x
whole_row-among (Selected s) is p = shape_row-among s.kind s.first s.second p is
whole_row-among (Walls s) is p = shape_row-among s.kind s.first s.second p is
whole_row-among (Faces s) is p = shape_row-among s.kind s.first s.second p is
whole_row-among (Ball centre radius hollow) is p = ball_row-among centre radius p is
whole_row-among (Tube centre radius height hollow) is p = tube_row-among centre radius height p is

-- ---- hollow shapes

-- these rows are those of the shape
abbrev HasRows : (Pos → Bool) → (ℤ → ℤ → Interval) → Type 0
HasRows shape row = (p : Pos) → shape p ≡ is_among (row p.y p.z) p.x

pub among_common : (i j : Interval) (v : ℤ) → is_among (common i j) v ≡ (is_among i v && is_among j v)
among_common i j v = grind (arith, ints)

among_shrunk : (i : Interval) (v : ℤ) → is_among (shrunk i) v ≡ (is_among i (v +ℤ pos 1) && is_among i (v -ℤ pos 1))
among_shrunk i v = grind (arith, ints)

among_walled : (row : ℤ → ℤ → Interval) (y z v : ℤ)
    → is_among (walled row y z) v ≡ (is_among (row y z) (v +ℤ pos 1) && is_among (row y z) (v -ℤ pos 1) && (is_among (row y (z -ℤ pos 1)) v && is_among (row y (z +ℤ pos 1)) v))
among_walled row y z v =
    among_common (shrunk (row y z)) (common (row y (z -ℤ pos 1)) (row y (z +ℤ pos 1))) v
    ∙ rw (among_shrunk (row y z) v, among_common (row y (z -ℤ pos 1)) (row y (z +ℤ pos 1)) v) refl

four_sides : (n s e w : Bool) → (n && (s && (e && (w && true)))) ≡ (e && w && (n && s))
four_sides n s e w = grind arith

six_sides : (u d n s e w : Bool) → (u && (d && (n && (s && (e && (w && true)))))) ≡ (e && w && (n && s) && (u && d))
six_sides u d n s e w = grind arith

-- the walls of a shape leave out the inner part of its row
walls_row : (shape : Pos → Bool) (row : ℤ → ℤ → Interval) → HasRows shape row → (p : Pos)
    → is_at_edge horizontal shape p ≡ (is_among (row p.y p.z) p.x && not (is_among (walled row p.y p.z) p.x))
walls_row shape row h p =
    rw (h p, h (neighbour North p), h (neighbour South p), h (neighbour East p), h (neighbour West p), among_walled row p.y p.z p.x)
    (ap (λ b. is_among (row p.y p.z) p.x && not b)
    (four_sides (is_among (row p.y (p.z -ℤ pos 1)) p.x) (is_among (row p.y (p.z +ℤ pos 1)) p.x) (is_among (row p.y p.z) (p.x +ℤ pos 1)) (is_among (row p.y p.z) (p.x -ℤ pos 1))))

among_enclosed : (row : ℤ → ℤ → Interval) (y z v : ℤ)
    → is_among (enclosed row y z) v ≡ (is_among (walled row y z) v && (is_among (row (y +ℤ pos 1) z) v && is_among (row (y -ℤ pos 1) z) v))
among_enclosed row y z v =
    among_common (walled row y z) (common (row (y +ℤ pos 1) z) (row (y -ℤ pos 1) z)) v
    ∙ rw (among_common (row (y +ℤ pos 1) z) (row (y -ℤ pos 1) z) v) refl

-- and the faces leave out what is also among the rows above and below
faces_row : (shape : Pos → Bool) (row : ℤ → ℤ → Interval) → HasRows shape row → (p : Pos)
    → is_at_edge directions shape p ≡ (is_among (row p.y p.z) p.x && not (is_among (enclosed row p.y p.z) p.x))
faces_row shape row h p =
    rw (h p, h (neighbour Up p), h (neighbour Down p), h (neighbour North p), h (neighbour South p), h (neighbour East p), h (neighbour West p), among_enclosed row p.y p.z p.x, among_walled row p.y p.z p.x)
    (ap (λ b. is_among (row p.y p.z) p.x && not b)
    (six_sides (is_among (row (p.y +ℤ pos 1) p.z) p.x) (is_among (row (p.y -ℤ pos 1) p.z) p.x) (is_among (row p.y (p.z -ℤ pos 1)) p.x) (is_among (row p.y (p.z +ℤ pos 1)) p.x) (is_among (row p.y p.z) (p.x +ℤ pos 1)) (is_among (row p.y p.z) (p.x -ℤ pos 1))))

-- a whole shape leaves out nothing
nothing_out : (b : Bool) (v : ℤ) → b ≡ (b && not (is_among nowhere v))
nothing_out b v = rw (among_nowhere v) (grind arith)

whole_inside : (shape : Pos → Bool) (row : ℤ → ℤ → Interval) → HasRows shape row → (p : Pos)
    → shape p ≡ (is_among (row p.y p.z) p.x && not (is_among nowhere p.x))
whole_inside shape row h p = h p ∙ nothing_out (is_among (row p.y p.z) p.x) p.x

ball_inside : (centre : Pos) (r : ℕ) (hollow : Bool) (p : Pos) → reach_limit r < 2 ^ 68
    → is_inside (Ball centre r hollow) p ≡ (is_among (ball_row centre r p.y p.z) p.x && not (is_among (core_row (Ball centre r hollow) p.y p.z) p.x))
ball_inside centre r true p small = faces_row (is_in_ball centre r) (ball_row centre r) (λ q. ball_row-among centre r q small) p
ball_inside centre r false p small = whole_inside (is_in_ball centre r) (ball_row centre r) (λ q. ball_row-among centre r q small) p

tube_inside : (centre : Pos) (r height : ℕ) (hollow : Bool) (p : Pos) → reach_limit r < 2 ^ 68
    → is_inside (Tube centre r height hollow) p ≡ (is_among (tube_row centre r height p.y p.z) p.x && not (is_among (core_row (Tube centre r height hollow) p.y p.z) p.x))
tube_inside centre r height true p small = walls_row (is_in_tube centre r height) (tube_row centre r height) (λ q. tube_row-among centre r height q small) p
tube_inside centre r height false p small = whole_inside (is_in_tube centre r height) (tube_row centre r height) (λ q. tube_row-among centre r height q small) p

-- A position belongs to a region exactly where its x is in the whole shape's row and not in the inner part that the
-- region leaves out.
pub rows_inside : (region : Region) → IsBounded region → (p : Pos)
    → is_inside region p ≡ (is_among (whole_row region p.y p.z) p.x && not (is_among (core_row region p.y p.z) p.x))
rows_inside (Selected s) is p = whole_inside (is_selected s) (shape_row s.kind s.first s.second) (λ q. shape_row-among s.kind s.first s.second q is) p
rows_inside (Walls s) is p = walls_row (is_selected s) (shape_row s.kind s.first s.second) (λ q. shape_row-among s.kind s.first s.second q is) p
rows_inside (Faces s) is p = faces_row (is_selected s) (shape_row s.kind s.first s.second) (λ q. shape_row-among s.kind s.first s.second q is) p
rows_inside (Ball centre radius hollow) is p = ball_inside centre radius hollow p is
rows_inside (Tube centre radius height hollow) is p = tube_inside centre radius height hollow p is

-- the inner part is empty or lies in the row, away from its ends
pub record IsInner (core row : Interval) : Type 0 where
  pub from : (row.from +ℤ pos 1) ≤ℤ core.from
  pub to : (core.to +ℤ pos 1) ≤ℤ row.to

inner_shrunk : (i j : Interval) → IsInner (common (shrunk i) j) i
inner_shrunk i j = record { from = grind (arith, ints); to = grind (arith, ints) }

inner_common : (i j k : Interval) → IsInner j i → IsInner (common j k) i
inner_common i j k h = let a = h.from in let b = h.to in record { from = grind (arith, ints); to = grind (arith, ints) }

walled_inner : (row : ℤ → ℤ → Interval) (y z : ℤ) → IsInner (walled row y z) (row y z)
walled_inner row y z = inner_shrunk (row y z) (common (row y (z -ℤ pos 1)) (row y (z +ℤ pos 1)))

enclosed_inner : (row : ℤ → ℤ → Interval) (y z : ℤ) → IsInner (enclosed row y z) (row y z)
enclosed_inner row y z = inner_common (row y z) (walled row y z) (common (row (y +ℤ pos 1) z) (row (y -ℤ pos 1) z)) (walled_inner row y z)

-- what a region leaves out of a row is no row at all, or inner
pub core_inner : (region : Region) (y z : ℤ) → (core_row region y z ≡ nowhere) ⊎ IsInner (core_row region y z) (whole_row region y z)
core_inner (Selected s) y z = inl refl
core_inner (Walls s) y z = inr (walled_inner (shape_row s.kind s.first s.second) y z)
core_inner (Faces s) y z = inr (enclosed_inner (shape_row s.kind s.first s.second) y z)
core_inner (Ball centre radius true) y z = inr (enclosed_inner (ball_row centre radius) y z)
core_inner (Ball centre radius false) y z = inl refl
core_inner (Tube centre radius height true) y z = inr (walled_inner (tube_row centre radius height) y z)
core_inner (Tube centre radius height false) y z = inl refl
