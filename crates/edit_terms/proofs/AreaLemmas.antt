-- The list of a box's blocks: each block has one place in it, below the volume, and each place one block.
use Rattle.std.proofs.Common.{◌≡◌, ℕ, ◌+◌, ◌*◌, ◌/◌, ◌%◌, ◌<◌, ◌≤◌, Bool, true, false, ◌&&◌, ℤ, pos, negsuc, ◌+ℤ◌, ◌-ℤ◌, ◌≤ℤ◌, ◌<ℤ◌, refl, sym, ap, ◌∙◌, subst, arith, leb, ltb}
use Rattle.std.specs.Prelude.{nat_le, nat_abs, int_le, int_lt}
use Rattle.std.proofs.lemmas.Bool.{leb-true, ltb-true}
use Rattle.std.proofs.lemmas.Nat.{mul-add-lt, mul-lt, div-mul-add, mod-mul-add, div-add-mod', div_below, mod_below}
use Rattle.std.proofs.lemmas.Int.{ints}
use Rattle.std.specs.Cmp.Derive.{both_true}
use Rattle.std.proofs.Math.Nat.{div-div-eq-div-mul, mul_comm, mul_assoc}
use Rattle.edit_terms.specs.declared.pos.Pos.{Pos}
use Rattle.edit_terms.specs.Area.{Area, volume, is_from, is_within, holds, offset, index_of, position_of, is_size, is_sized, is_part, map_area, is_on_map, is_world_box, IsBlockAt}

-- a block's place is below the volume
pub place_below : (w h l x y z : ℕ) → x < w → y < h → z < l → x + z * w + y * (w * l) < w * h * l
place_below w h l x y z in_w in_h in_l =
    let row : z * w + x < w * l = mul-add-lt z w x l in_l in_w in
    let all : y * (w * l) + (z * w + x) < (w * l) * h = mul-add-lt y (w * l) (z * w + x) h in_h row in
    omega (arith, all, mul_assoc w h l, mul_comm h l, mul_assoc w l h)

-- two tests that hold together
pub and_both : (a b : Bool) → (a && b) ≡ true → (a ≡ true) × (b ≡ true)
and_both true true h = (refl, refl)
and_both true false h = absurd cc
and_both false b h = absurd cc

-- what the limits of a world's box say in numbers
pub record IsLimited (a : Area) : Type 0 where
  pub width : 0 < a.width
  pub height : 0 < a.height
  pub length : 0 < a.length
  pub narrow : a.width ≤ 65535
  pub low : a.height ≤ 65535
  pub short : a.length ≤ 65535
  pub small : volume a ≤ 33554432

pub record IsInRange (first : ℤ) (count : ℕ) (low : ℤ) (size : ℕ) : Type 0 where
  pub from : first ≤ℤ low
  pub to : (low +ℤ pos size) ≤ℤ (first +ℤ pos count)

size_limits : (n : ℕ) → is_size n ≡ true → (0 < n) × (n ≤ 65535)
size_limits n h = let parts = and_both (ltb 0 n) (leb n 65535) h in (ltb-true 0 n parts.0, leb-true n 65535 parts.1)

pub limits : (a : Area) → is_world_box a ≡ true → IsLimited a
limits a h =
    let sized = (and_both (is_sized a) (is_part a map_area) h).0 in
    let first = and_both (is_size a.width && is_size a.height && is_size a.length) (nat_le (volume a) 33554432) sized in
    let sides = and_both (is_size a.width && is_size a.height) (is_size a.length) first.0 in
    let two = and_both (is_size a.width) (is_size a.height) sides.0 in
    let w = size_limits a.width two.0 in
    let y = size_limits a.height two.1 in
    let l = size_limits a.length sides.1 in
    record { width = w.0; height = y.0; length = l.0; narrow = w.1; low = y.1; short = l.1; small = leb-true (volume a) 33554432 first.1 }

in_range : (first : ℤ) (count : ℕ) (low : ℤ) (size : ℕ) → is_within first count low size ≡ true → IsInRange first count low size
in_range first count low size h =
    let parts = and_both (int_le first low) (int_le (low +ℤ pos size) (first +ℤ pos count)) h in
    let p0 = parts.0 in let p1 = parts.1 in
    record { from = grind (arith, ints); to = grind (arith, ints) }

-- where a world's box lies on the map
pub record IsAreaOnMap (a : Area) : Type 0 where
  pub x : IsInRange (negsuc 33554431) 67108864 a.least.x a.width
  pub y : IsInRange (negsuc 2047) 4096 a.least.y a.height
  pub z : IsInRange (negsuc 33554431) 67108864 a.least.z a.length

pub on_map : (a : Area) → is_world_box a ≡ true → IsAreaOnMap a
on_map a h =
    let spans = (and_both (is_sized a) (is_part a map_area) h).1 in
    let first = and_both (is_within (negsuc 33554431) 67108864 a.least.x a.width && is_within (negsuc 2047) 4096 a.least.y a.height) (is_within (negsuc 33554431) 67108864 a.least.z a.length) spans in
    let two = and_both (is_within (negsuc 33554431) 67108864 a.least.x a.width) (is_within (negsuc 2047) 4096 a.least.y a.height) first.0 in
    record { x = in_range _ _ _ _ two.0; y = in_range _ _ _ _ two.1; z = in_range _ _ _ _ first.1 }

offset_back : (low : ℤ) (k : ℕ) → offset low (low +ℤ pos k) ≡ k
offset_back low k = let e : low +ℤ pos k -ℤ low ≡ pos k = omega (arith, ints) in ap nat_abs e

from_back : (low : ℤ) (size k : ℕ) → k < size → is_from low size (low +ℤ pos k) ≡ true
from_back low size k h = grind (arith, ints)

-- a number by its remainder and quotients
parts_of : (w l q r m d i : ℕ) → d * w + m ≡ i → q * l + r ≡ d → m + r * w + q * (w * l) ≡ i
parts_of w l q r m d i by_row by_layer =
    let flat : (q * l + r) * w + m ≡ i = ap (λ (n : ℕ). n * w + m) by_layer ∙ by_row in
    omega (arith, flat)

-- a place of the list is the place of the block that stands there
pub block_at_place : (a : Area) (i : ℕ) → is_world_box a ≡ true → i < volume a → IsBlockAt a i (position_of a i)
block_at_place a i h below =
    let fits = limits a h in
    let w = a.width in
    let l = a.length in
    let layer : 0 < w * l = omega (arith, mul-lt 0 0 w l fits.width fits.length) in
    let x : i % w < w = mod_below i w fits.width in
    let z : i / w % l < l = mod_below (i / w) l fits.length in
    let order : i < a.height * (w * l) = omega (arith, below) in
    let y : i / (w * l) < a.height = div_below i (w * l) a.height layer order in
    let row : i / w * w + i % w ≡ i = div-add-mod' i w in
    let split : i / w / l * l + i / w % l ≡ i / w = div-add-mod' (i / w) l in
    let layers : i / (w * l) * l + i / w % l ≡ i / w = subst (λ (q : ℕ). q * l + i / w % l ≡ i / w) (div-div-eq-div-mul i w l) split in
    record {
      held = both_true (both_true (from_back a.least.x w (i % w) x) (from_back a.least.y a.height (i / (w * l)) y)) (from_back a.least.z l (i / w % l) z);
      place = rw (offset_back a.least.x (i % w), offset_back a.least.y (i / (w * l)), offset_back a.least.z (i / w % l)) (parts_of w l (i / (w * l)) (i / w % l) (i % w) (i / w) i row layers);
    }

-- the remainders and quotients of a place are the offsets that it was made of
parts_of_place : (w l x y z : ℕ) → x < w → z < l → ((x + z * w + y * (w * l)) % w ≡ x) × ((x + z * w + y * (w * l)) / w % l ≡ z) × ((x + z * w + y * (w * l)) / (w * l) ≡ y)
parts_of_place w l x y z in_w in_l =
    let flat : x + z * w + y * (w * l) ≡ (y * l + z) * w + x = omega arith in
    let row : (x + z * w + y * (w * l)) / w ≡ y * l + z = ap (λ (n : ℕ). n / w) flat ∙ div-mul-add (y * l + z) w x in_w in
    let m : (x + z * w + y * (w * l)) % w ≡ x = ap (λ (n : ℕ). n % w) flat ∙ mod-mul-add (y * l + z) w x in_w in
    let south : (x + z * w + y * (w * l)) / w % l ≡ z = ap (λ (n : ℕ). n % l) row ∙ mod-mul-add y l z in_l in
    let up : (x + z * w + y * (w * l)) / (w * l) ≡ y = sym (div-div-eq-div-mul (x + z * w + y * (w * l)) w l) ∙ ap (λ (n : ℕ). n / l) row ∙ div-mul-add y l z in_l in
    (m, south, up)

-- what one coordinate's test says
pub record IsOffset (low : ℤ) (size : ℕ) (v : ℤ) : Type 0 where
  pub below : offset low v < size
  pub back : low +ℤ pos (offset low v) ≡ v

pub offset_of : (low : ℤ) (size : ℕ) (v : ℤ) → is_from low size v ≡ true → IsOffset low size v
offset_of low size v h =
    let parts = and_both (int_le low v) (int_lt v (low +ℤ pos size)) h in
    let p0 = parts.0 in let p1 = parts.1 in
    record { below = grind (arith, ints); back = grind (arith, ints) }

-- the block at the place of a block is that block
pub position_at_index : (a : Area) (p : Pos) → holds a p ≡ true → position_of a (index_of a p) ≡ p
position_at_index a p h =
    let first = and_both (is_from a.least.x a.width p.x && is_from a.least.y a.height p.y) (is_from a.least.z a.length p.z) h in
    let two = and_both (is_from a.least.x a.width p.x) (is_from a.least.y a.height p.y) first.0 in
    let x = offset_of a.least.x a.width p.x two.0 in
    let y = offset_of a.least.y a.height p.y two.1 in
    let z = offset_of a.least.z a.length p.z first.1 in
    let parts = parts_of_place a.width a.length (offset a.least.x p.x) (offset a.least.y p.y) (offset a.least.z p.z) x.below z.below in
    let ex : a.least.x +ℤ pos (index_of a p % a.width) ≡ p.x = ap (λ (n : ℕ). a.least.x +ℤ pos n) parts.0 ∙ x.back in
    let ey : a.least.y +ℤ pos (index_of a p / (a.width * a.length)) ≡ p.y = ap (λ (n : ℕ). a.least.y +ℤ pos n) parts.2 ∙ y.back in
    let ez : a.least.z +ℤ pos (index_of a p / a.width % a.length) ≡ p.z = ap (λ (n : ℕ). a.least.z +ℤ pos n) parts.1 ∙ z.back in
    λ i. record { x = ex i; y = ey i; z = ez i }

-- a block of the box has a place below the volume
pub held_below : (a : Area) (p : Pos) → holds a p ≡ true → index_of a p < volume a
held_below a p h =
    let first = and_both (is_from a.least.x a.width p.x && is_from a.least.y a.height p.y) (is_from a.least.z a.length p.z) h in
    let two = and_both (is_from a.least.x a.width p.x) (is_from a.least.y a.height p.y) first.0 in
    let x = offset_of a.least.x a.width p.x two.0 in
    let y = offset_of a.least.y a.height p.y two.1 in
    let z = offset_of a.least.z a.length p.z first.1 in
    place_below a.width a.height a.length (offset a.least.x p.x) (offset a.least.y p.y) (offset a.least.z p.z) x.below y.below z.below

-- where a position of the map lies
pub record IsPosOnMap (p : Pos) : Type 0 where
  pub least_x : negsuc 33554431 ≤ℤ p.x
  pub most_x : p.x <ℤ pos 33554432
  pub least_y : negsuc 2047 ≤ℤ p.y
  pub most_y : p.y <ℤ pos 2048
  pub least_z : negsuc 33554431 ≤ℤ p.z
  pub most_z : p.z <ℤ pos 33554432

pub held_on_map : (p : Pos) → is_on_map p ≡ true → IsPosOnMap p
held_on_map p h =
    let first = and_both (is_from (negsuc 33554431) 67108864 p.x && is_from (negsuc 2047) 4096 p.y) (is_from (negsuc 33554431) 67108864 p.z) h in
    let two = and_both (is_from (negsuc 33554431) 67108864 p.x) (is_from (negsuc 2047) 4096 p.y) first.0 in
    let x = two.0 in let y = two.1 in let z = first.1 in
    record {
      least_x = grind (arith, ints);
      most_x = grind (arith, ints);
      least_y = grind (arith, ints);
      most_y = grind (arith, ints);
      least_z = grind (arith, ints);
      most_z = grind (arith, ints);
    }
