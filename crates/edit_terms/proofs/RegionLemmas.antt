-- Regions lie in their frames, and the root of a number is its square root rounded down.
--
-- A squared difference of coordinates is the square of a natural number, so a test of squares bounds that number,
-- and a bound on it puts the coordinate between the ends of the frame.
use Rattle.std.proofs.Common.{◌≡◌, ℕ, zero, suc, ◌+◌, ◌*◌, ◌^◌, ◌<◌, ◌≤◌, Bool, true, false, inl, inr, cond, ◌&&◌, List, ℤ, pos, negsuc, ◌-ℤ◌, ◌*ℤ◌, refl, subst, arith, leb}
use Rattle.std.specs.Prelude.{nat_abs, int_le, not, FitsSigned}
use Rattle.std.specs.Int.{w32, int_min, int_max}
use Rattle.std.specs.List.{list_all}
use Rattle.std.specs.Cmp.Derive.{both_true}
use Rattle.std.proofs.lemmas.Bool.{leb-true, leb-false, cases_lt}
use Rattle.std.proofs.lemmas.Int.{ints}
use Rattle.std.proofs.Math.Nat.{mul-le-mul, two-pow-succ}
use Rattle.edit_terms.specs.declared.pos.Pos.{Pos}
use Rattle.edit_terms.specs.declared.direction.Direction.{Direction}
use Rattle.edit_terms.specs.declared.region.Kind.{Kind}
use Rattle.edit_terms.specs.declared.region.Kind.TheVariants.{Cuboid, Sphere, Cylinder}
use Rattle.edit_terms.specs.declared.region.Selection.{Selection}
use Rattle.edit_terms.specs.declared.region.Region.{Region}
use Rattle.edit_terms.specs.declared.region.Region.TheVariants.{Selected, Walls, Faces, Ball, Tube}
use Rattle.edit_terms.specs.Area.{Area, is_from, holds}
use Rattle.edit_terms.specs.Region.{is_between, flat_distance, distance, is_in_shape, is_in_reach, is_in_ball, is_in_tube, is_at_edge, is_selected, is_in_whole, IsPartOfWhole}
use Rattle.edit_terms.specs.Frame.{count_between, with_digit, root_from, root, IsRoot, disc_frame, ball_frame, shape_frame, frame_of, IsPosition, IsSelection, IsRegion, IsFramed, common_count, common_box}
use Rattle.edit_terms.specs.Neighbour.{neighbour, horizontal, directions}
use Rattle.edit_terms.proofs.AreaLemmas.{and_both}

-- a digit tried for a root: what is left to decide is a digit shorter
digit_tried : (n digits r d : ℕ) (b : Bool) → leb ((r + d) * (r + d)) n ≡ b → r * r ≤ n → n < (r + d + d) * (r + d + d)
    → (cond b (r + d) r * cond b (r + d) r ≤ n) × (n < (cond b (r + d) r + d) * (cond b (r + d) r + d))
digit_tried n digits r d true test low high = (leb-true ((r + d) * (r + d)) n test, high)
digit_tried n digits r d false test low high = (low, leb-false ((r + d) * (r + d)) n test)

-- digits decided from the highest on give the root
root_digits : (n digits r : ℕ) → r * r ≤ n → n < (r + 2 ^ digits) * (r + 2 ^ digits) → IsRoot n (root_from n digits r)
root_digits n zero r low high = record { within = low; greatest = high }
root_digits n (suc digits) r low high =
    let twice : r + 2 ^ suc digits ≡ r + 2 ^ digits + 2 ^ digits = omega (arith, two-pow-succ digits) in
    let high_here : n < (r + 2 ^ digits + 2 ^ digits) * (r + 2 ^ digits + 2 ^ digits) = subst (λ (m : ℕ). n < m * m) twice high in
    let next = digit_tried n digits r (2 ^ digits) (leb ((r + 2 ^ digits) * (r + 2 ^ digits)) n) refl low high_here in
    root_digits n digits (with_digit n (2 ^ digits) r) next.0 next.1

pub root_is : (n : ℕ) → n < 2 ^ 68 → IsRoot n (root n)
unfolding root
root_is n below = root_digits n 34 0 (omega arith) below

-- the product of a difference with itself is a square of a natural number
square_abs : (z : ℤ) → z *ℤ z ≡ pos (nat_abs z * nat_abs z)
square_abs (pos n) = refl
square_abs (negsuc n) = refl

pub flat_squares : (p q : Pos) → flat_distance p q ≡ pos (nat_abs (p.x -ℤ q.x) * nat_abs (p.x -ℤ q.x) + nat_abs (p.z -ℤ q.z) * nat_abs (p.z -ℤ q.z))
flat_squares p q = rw (square_abs (p.x -ℤ q.x), square_abs (p.z -ℤ q.z)) refl

pub squares : (p q : Pos) → distance p q ≡ pos (nat_abs (p.x -ℤ q.x) * nat_abs (p.x -ℤ q.x) + nat_abs (p.z -ℤ q.z) * nat_abs (p.z -ℤ q.z) + nat_abs (p.y -ℤ q.y) * nat_abs (p.y -ℤ q.y))
squares p q = rw (flat_squares p q, square_abs (p.y -ℤ q.y)) refl

-- a square that is one of several within the reach of a radius is that of at most the radius
within_reach : (r g other : ℕ) → 4 * (g * g + other) ≤ (2 * r + 1) * (2 * r + 1) → g ≤ r
within_reach r g other h = elim (cases_lt r g) as (λ _. g ≤ r) [
  | inl far ↦ (let one : r + 1 ≤ g = omega (arith, far) in let square : (r + 1) * (r + 1) ≤ g * g = mul-le-mul one one in omega (arith, square, h))
  | inr near ↦ near
]

-- and one within a number is that of at most the number's root
within_root : (n r g other : ℕ) → IsRoot n r → g * g + other ≤ n → g ≤ r
within_root n r g other is h = elim (cases_lt r g) as (λ _. g ≤ r) [
  | inl far ↦ (let one : r + 1 ≤ g = omega (arith, far) in let square : (r + 1) * (r + 1) ≤ g * g = mul-le-mul one one in omega (arith, square, h, is.greatest))
  | inr near ↦ near
]

-- a coordinate at most s away lies among the 2 s + 1 about the middle
about : (a v : ℤ) (s : ℕ) → nat_abs (a -ℤ v) ≤ s → is_from (a -ℤ pos s) (2 * s + 1) v ≡ true
about a v s h = grind (arith, ints)

-- a coordinate between two is one from the least to the greatest
between : (a b v : ℤ) → is_between a b v ≡ true → is_from (int_min a b) (count_between a b) v ≡ true
between a b v h = grind (arith, ints)

-- the squared distance that a test against a radius or another distance allows
test_of : (n m : ℕ) (z : ℤ) → z ≡ pos n → int_le z (pos m) ≡ true → n ≤ m
test_of n m z is h = leb-true n m (subst (λ (y : ℤ). int_le y (pos m) ≡ true) is h)

reach_of : (r n : ℕ) (z : ℤ) → z ≡ pos n → is_in_reach r z ≡ true → 4 * n ≤ (2 * r + 1) * (2 * r + 1)
reach_of r n z is h = leb-true (4 * n) ((2 * r + 1) * (2 * r + 1)) (subst (λ (y : ℤ). is_in_reach r y ≡ true) is h)

three_true : {a b c : Bool} → a ≡ true → b ≡ true → c ≡ true → (a && b && c) ≡ true
three_true x y z = both_true (both_true x y) z

ball_framed : (centre : Pos) (r : ℕ) (p : Pos) → is_in_ball centre r p ≡ true → holds (ball_frame centre r) p ≡ true
ball_framed centre r p h =
    let x = nat_abs (centre.x -ℤ p.x) in let y = nat_abs (centre.y -ℤ p.y) in let z = nat_abs (centre.z -ℤ p.z) in
    let within : 4 * (x * x + z * z + y * y) ≤ (2 * r + 1) * (2 * r + 1) = reach_of r (x * x + z * z + y * y) (distance centre p) (squares centre p) h in
    three_true
    (about centre.x p.x r (within_reach r x (z * z + y * y) (omega (arith, within))))
    (about centre.y p.y r (within_reach r y (x * x + z * z) (omega (arith, within))))
    (about centre.z p.z r (within_reach r z (x * x + y * y) (omega (arith, within))))

tube_framed : (centre : Pos) (r height : ℕ) (p : Pos) → is_in_tube centre r height p ≡ true → holds (disc_frame centre r centre.y height) p ≡ true
tube_framed centre r height p h =
    let parts = and_both (is_in_reach r (flat_distance centre p)) (is_from centre.y height p.y) h in
    let x = nat_abs (centre.x -ℤ p.x) in let z = nat_abs (centre.z -ℤ p.z) in
    let within : 4 * (x * x + z * z) ≤ (2 * r + 1) * (2 * r + 1) = reach_of r (x * x + z * z) (flat_distance centre p) (flat_squares centre p) parts.0 in
    three_true
    (about centre.x p.x r (within_reach r x (z * z) (omega (arith, within))))
    parts.1
    (about centre.z p.z r (within_reach r z (x * x) (omega (arith, within))))

cuboid_framed : (first second p : Pos) → is_in_shape Cuboid first second p ≡ true → holds (shape_frame Cuboid first second) p ≡ true
cuboid_framed first second p h =
    let parts = and_both (is_between first.x second.x p.x && is_between first.y second.y p.y) (is_between first.z second.z p.z) h in
    let two = and_both (is_between first.x second.x p.x) (is_between first.y second.y p.y) parts.0 in
    three_true (between first.x second.x p.x two.0) (between first.y second.y p.y two.1) (between first.z second.z p.z parts.1)

sphere_framed : (first second p : Pos) → nat_abs (distance first second) < 2 ^ 68 → is_in_shape Sphere first second p ≡ true → holds (shape_frame Sphere first second) p ≡ true
sphere_framed first second p small h =
    let x = nat_abs (first.x -ℤ p.x) in let y = nat_abs (first.y -ℤ p.y) in let z = nat_abs (first.z -ℤ p.z) in
    let n = nat_abs (distance first second) in
    let is : distance first second ≡ pos n = rw (squares first second) refl in
    let within : x * x + z * z + y * y ≤ n = test_of (x * x + z * z + y * y) n (distance first p) (squares first p) (subst (λ (d : ℤ). int_le (distance first p) d ≡ true) is h) in
    let s = root_is n small in
    three_true
    (about first.x p.x (root n) (within_root n (root n) x (z * z + y * y) s (omega (arith, within))))
    (about first.y p.y (root n) (within_root n (root n) y (x * x + z * z) s (omega (arith, within))))
    (about first.z p.z (root n) (within_root n (root n) z (x * x + y * y) s (omega (arith, within))))

cylinder_framed : (first second p : Pos) → nat_abs (distance first second) < 2 ^ 68 → is_in_shape Cylinder first second p ≡ true → holds (shape_frame Cylinder first second) p ≡ true
cylinder_framed first second p small h =
    let parts = and_both (int_le (flat_distance first p) (flat_distance first second)) (is_between first.y second.y p.y) h in
    let x = nat_abs (first.x -ℤ p.x) in let z = nat_abs (first.z -ℤ p.z) in
    let n = nat_abs (flat_distance first second) in
    let is : flat_distance first second ≡ pos n = rw (flat_squares first second) refl in
    let less : n ≤ nat_abs (distance first second) = rw (squares first second, flat_squares first second) (omega arith) in
    let within : x * x + z * z ≤ n = test_of (x * x + z * z) n (flat_distance first p) (flat_squares first p) (subst (λ (d : ℤ). int_le (flat_distance first p) d ≡ true) is parts.0) in
    let s = root_is n (omega (arith, less, small)) in
    three_true
    (about first.x p.x (root n) (within_root n (root n) x (z * z) s (omega (arith, within))))
    (between first.y second.y p.y parts.1)
    (about first.z p.z (root n) (within_root n (root n) z (x * x) s (omega (arith, within))))

shape_framed : (kind : Kind) (first second p : Pos) → nat_abs (distance first second) < 2 ^ 68 → is_in_shape kind first second p ≡ true → holds (shape_frame kind first second) p ≡ true
shape_framed Cuboid first second p small h = cuboid_framed first second p h
shape_framed Sphere first second p small h = sphere_framed first second p small h
shape_framed Cylinder first second p small h = cylinder_framed first second p small h

-- two coordinates of 32 bits are at most 2 ^ 32 apart
gap_small : (a b : ℤ) → FitsSigned w32 a → FitsSigned w32 b → nat_abs (a -ℤ b) ≤ 2 ^ 32
gap_small a b fa fb = grind (arith, ints)

-- and the squared distance of two such positions is below 2 ^ 68
near : (p q : Pos) → IsPosition p → IsPosition q → nat_abs (distance p q) < 2 ^ 68
near p q ip iq =
    let x = nat_abs (p.x -ℤ q.x) in let y = nat_abs (p.y -ℤ q.y) in let z = nat_abs (p.z -ℤ q.z) in
    let gx = gap_small p.x q.x ip.x iq.x in let gy = gap_small p.y q.y ip.y iq.y in let gz = gap_small p.z q.z ip.z iq.z in
    let sx : x * x ≤ 2 ^ 32 * 2 ^ 32 = mul-le-mul gx gx in
    let sy : y * y ≤ 2 ^ 32 * 2 ^ 32 = mul-le-mul gy gy in
    let sz : z * z ≤ 2 ^ 32 * 2 ^ 32 = mul-le-mul gz gz in
    rw (squares p q) (omega (arith, sx, sy, sz))

selection_framed : (s : Selection) (p : Pos) → IsSelection s → is_selected s p ≡ true → holds (shape_frame s.kind s.first s.second) p ≡ true
selection_framed s p is h = shape_framed s.kind s.first s.second p (near s.first s.second is.first is.second) h

-- an edge is a part of its shape
edge_part : (to : List Direction) (shape : Pos → Bool) (p : Pos) → is_at_edge to shape p ≡ true → shape p ≡ true
edge_part to shape p h = (and_both (shape p) (not (list_all (λ d. shape (neighbour d p)) to)) h).0

shell_part : (to : List Direction) (shape : Pos → Bool) (hollow : Bool) (p : Pos) → cond hollow (is_at_edge to shape p) (shape p) ≡ true → shape p ≡ true
shell_part to shape true p h = edge_part to shape p h
shell_part to shape false p h = h

pub part_of_whole : (region : Region) → IsPartOfWhole region
part_of_whole (Selected s) p h = h
part_of_whole (Walls s) p h = edge_part horizontal (is_selected s) p h
part_of_whole (Faces s) p h = edge_part directions (is_selected s) p h
part_of_whole (Ball centre radius hollow) p h = shell_part directions (is_in_ball centre radius) hollow p h
part_of_whole (Tube centre radius height hollow) p h = shell_part horizontal (is_in_tube centre radius height) hollow p h

-- the whole shape lies in the frame
whole_framed : (region : Region) → IsRegion region → (p : Pos) → is_in_whole region p ≡ true → holds (frame_of region) p ≡ true
whole_framed (Selected s) is p h = selection_framed s p is h
whole_framed (Walls s) is p h = selection_framed s p is h
whole_framed (Faces s) is p h = selection_framed s p is h
whole_framed (Ball centre radius hollow) is p h = ball_framed centre radius p h
whole_framed (Tube centre radius height hollow) is p h = tube_framed centre radius height p h

pub framed : (region : Region) → IsRegion region → IsFramed region
framed region is p h = whole_framed region is p (part_of_whole region p h)

-- a coordinate is among both rows of numbers exactly where it is in their common row
common_row : (a : ℤ) (m : ℕ) (b : ℤ) (n : ℕ) (v : ℤ) → is_from (int_max a b) (common_count a m b n) v ≡ (is_from a m v && is_from b n v)
common_row a m b n v = grind (arith, ints)

-- tests axis by axis and box by box are the same six tests
axes_of_two : (ax ay az bx by bz : Bool) → (ax && bx && (ay && by) && (az && bz)) ≡ (ax && ay && az && (bx && by && bz))
axes_of_two ax ay az bx by bz = grind arith

-- the positions of the common box are those of both
pub in_common_box : (a b : Area) (p : Pos) → holds (common_box a b) p ≡ (holds a p && holds b p)
in_common_box a b p =
    rw (common_row a.least.x a.width b.least.x b.width p.x, common_row a.least.y a.height b.least.y b.height p.y, common_row a.least.z a.length b.least.z b.length p.z)
    (axes_of_two (is_from a.least.x a.width p.x) (is_from a.least.y a.height p.y) (is_from a.least.z a.length p.z) (is_from b.least.x b.width p.x) (is_from b.least.y b.height p.y) (is_from b.least.z b.length p.z))
