-- No position far below or above those of 32 bits belongs to a selection.
use Rattle.std.proofs.Common.{◌≡◌, ℕ, ◌+◌, ◌*◌, ◌^◌, ◌<◌, ◌≤◌, Bool, true, false, ◌&&◌, ℤ, pos, ◌-ℤ◌, FitsSigned, refl, sym, ◌∙◌, subst, arith}
use Rattle.std.specs.Prelude.{nat_abs, int_le}
use Rattle.std.specs.Int.{w32}
use Rattle.std.proofs.lemmas.Int.{ints}
use Rattle.std.proofs.lemmas.Bool.{leb-true}
use Rattle.std.proofs.Math.Nat.{mul-le-mul}
use Rattle.edit_terms.specs.declared.pos.Pos.{Pos}
use Rattle.edit_terms.specs.declared.region.Kind.{Kind}
use Rattle.edit_terms.specs.declared.region.Kind.TheVariants.{Cuboid, Sphere, Cylinder}
use Rattle.edit_terms.specs.declared.region.Selection.{Selection}
use Rattle.edit_terms.specs.Region.{is_between, distance, flat_distance, is_in_shape, is_selected}
use Rattle.edit_terms.specs.Frame.{IsPosition}
use Rattle.edit_terms.proofs.AreaLemmas.{and_both}
use Rattle.edit_terms.proofs.RegionLemmas.{squares}
use Rattle.plain_terms.specs.Places.{is_near}

-- two coordinates of 32 bits are at most 2 ^ 32 apart, and one that is far is more than 2 ^ 34 from each of 32 bits
gap_small : (a b : ℤ) → FitsSigned w32 a → FitsSigned w32 b → nat_abs (a -ℤ b) ≤ 2 ^ 32
gap_small a b fa fb = grind (arith, ints)

gap_large : (a b : ℤ) → FitsSigned w32 a → is_near b ≡ false → 2 ^ 34 ≤ nat_abs (a -ℤ b)
gap_large a b fa far = grind (arith, ints)

far_between : (a b v : ℤ) → FitsSigned w32 a → FitsSigned w32 b → is_near v ≡ false → is_between a b v ≡ false
far_between a b v fa fb far = grind (arith, ints)

-- the squared distance of two positions of 32 bits
limit_small : (p q : Pos) → IsPosition p → IsPosition q → nat_abs (distance p q) < 2 ^ 68
limit_small p q ip iq =
    let x = nat_abs (p.x -ℤ q.x) in let y = nat_abs (p.y -ℤ q.y) in let z = nat_abs (p.z -ℤ q.z) in
    let gx = gap_small p.x q.x ip.x iq.x in let gy = gap_small p.y q.y ip.y iq.y in let gz = gap_small p.z q.z ip.z iq.z in
    let sx : x * x ≤ 2 ^ 32 * 2 ^ 32 = mul-le-mul gx gx in
    let sy : y * y ≤ 2 ^ 32 * 2 ^ 32 = mul-le-mul gy gy in
    let sz : z * z ≤ 2 ^ 32 * 2 ^ 32 = mul-le-mul gz gz in
    rw (squares p q) (omega (arith, sx, sy, sz))

-- the squared distance that a test against another allows
test_of : (n m : ℕ) (z : ℤ) → z ≡ pos n → int_le z (pos m) ≡ true → n ≤ m
test_of n m z is h = leb-true n m (subst (λ (y : ℤ). int_le y (pos m) ≡ true) is h)

far_shape : (kind : Kind) (first second q : Pos) → IsPosition first → IsPosition second → is_near q.y ≡ false → is_in_shape kind first second q ≡ true → false ≡ true
far_shape Cuboid first second q is_first is_second far h =
    let parts = and_both (is_between first.x second.x q.x && is_between first.y second.y q.y) (is_between first.z second.z q.z) h in
    let two = and_both (is_between first.x second.x q.x) (is_between first.y second.y q.y) parts.0 in
    sym (far_between first.y second.y q.y is_first.y is_second.y far) ∙ two.1
far_shape Sphere first second q is_first is_second far h =
    let x = nat_abs (first.x -ℤ q.x) in let y = nat_abs (first.y -ℤ q.y) in let z = nat_abs (first.z -ℤ q.z) in
    let n = nat_abs (distance first second) in
    let is : distance first second ≡ pos n = rw (squares first second) refl in
    let within : x * x + z * z + y * y ≤ n = test_of (x * x + z * z + y * y) n (distance first q) (squares first q) (subst (λ (d : ℤ). int_le (distance first q) d ≡ true) is h) in
    let gap = gap_large first.y q.y is_first.y far in
    let square : 2 ^ 34 * 2 ^ 34 ≤ y * y = mul-le-mul gap gap in
    absurd (omega (arith, square, within, limit_small first second is_first is_second))
far_shape Cylinder first second q is_first is_second far h =
    let parts = and_both (int_le (flat_distance first q) (flat_distance first second)) (is_between first.y second.y q.y) h in
    sym (far_between first.y second.y q.y is_first.y is_second.y far) ∙ parts.1

pub far_unselected : (s : Selection) (q : Pos) → IsPosition s.first → IsPosition s.second → is_near q.y ≡ false → is_selected s q ≡ false
far_unselected s q first second far = by_test (is_selected s q) refl
  where
    by_test : (b : Bool) → is_selected s q ≡ b → b ≡ false
    by_test false h = refl
    by_test true h = sym (far_shape s.kind s.first s.second q first second far h)
