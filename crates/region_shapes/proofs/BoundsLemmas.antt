-- What a world's box has in common with another box is a world's box, where it isn't empty.
use Rattle.std.proofs.Common.{◌≡◌, ℕ, ◌*◌, ◌<◌, ◌≤◌, ◌⊎◌, inl, inr, Bool, true, false, ◌||◌, refl, ℤ, pos, negsuc, ◌+ℤ◌, ◌≤ℤ◌, sym, ◌∙◌, ap, subst, arith}
use Rattle.std.specs.Prelude.{nat_le, Option, None, Some, MatchOption}
use Rattle.std.specs.Int.{int_max}
use Rattle.std.specs.Cmp.Derive.{both_true}
use Rattle.std.proofs.lemmas.Bool.Decides.{nat_tests}
use Rattle.std.proofs.lemmas.Int.{ints}
use Rattle.std.proofs.Math.Nat.{mul-le-mul}
use Rattle.edit_terms.specs.Area.{Area, volume, is_size, is_within, is_part, is_world_box}
use Rattle.edit_terms.specs.Frame.{common_count, common_box}
use Rattle.edit_terms.proofs.AreaLemmas.{limits, on_map}
use Rattle.region_shapes.specs.declared.extent.Extent.{Extent}
use Rattle.region_shapes.specs.Interval.{is_empty, size}
use Rattle.region_shapes.proofs.ExtentLemmas.{size_of_empty}
use Rattle.region_shapes.specs.Extents.{extent_of, box_of, is_without, common_extent}

few_common : (a : ℤ) (m : ℕ) (b : ℤ) (n : ℕ) → common_count a m b n ≤ n
few_common a m b n = grind (arith, ints)

common_size : (a : ℤ) (m : ℕ) (b : ℤ) (n : ℕ) → n ≤ 65535 → 0 < common_count a m b n → is_size (common_count a m b n) ≡ true
common_size a m b n h some = let few = few_common a m b n in sized (common_count a m b n) some (omega (arith, few, h))
  where
    sized : (k : ℕ) → 0 < k → k ≤ 65535 → is_size k ≡ true
    sized k low high = grind (arith, nat_tests)

common_within : (first : ℤ) (count : ℕ) (a : ℤ) (m : ℕ) (b : ℤ) (n : ℕ) → first ≤ℤ b → (b +ℤ pos n) ≤ℤ (first +ℤ pos count) → 0 < common_count a m b n
    → is_within first count (int_max a b) (common_count a m b n) ≡ true
common_within first count a m b n low high some = grind (arith, ints)

less_volume : (v w h l x y z : ℕ) → w * h * l ≤ v → x ≤ w → y ≤ h → z ≤ l → nat_le (x * y * z) v ≡ true
less_volume v w h l x y z whole in_w in_h in_l =
    let flat : x * y ≤ w * h = mul-le-mul in_w in_h in
    let all : x * y * z ≤ w * h * l = mul-le-mul flat in_l in
    small (x * y * z) v (omega (arith, all, whole))
  where
    small : (k m : ℕ) → k ≤ m → nat_le k m ≡ true
    small k m h = grind (arith, nat_tests)

pub common_box-world : (f a : Area) → is_world_box a ≡ true
    → 0 < (common_box f a).width → 0 < (common_box f a).height → 0 < (common_box f a).length → is_world_box (common_box f a) ≡ true
common_box-world f a h wide high long =
    let fits = limits a h in
    let place = on_map a h in
    let w = few_common f.least.x f.width a.least.x a.width in
    let t = few_common f.least.y f.height a.least.y a.height in
    let l = few_common f.least.z f.length a.least.z a.length in
    both_true
    (both_true
    (both_true (both_true (common_size f.least.x f.width a.least.x a.width fits.narrow wide) (common_size f.least.y f.height a.least.y a.height fits.low high)) (common_size f.least.z f.length a.least.z a.length fits.short long))
    (less_volume 33554432 a.width a.height a.length (common_box f a).width (common_box f a).height (common_box f a).length fits.small w t l))
    (both_true
    (both_true (common_within (negsuc 33554431) 67108864 f.least.x f.width a.least.x a.width place.x.from place.x.to wide) (common_within (negsuc 2047) 4096 f.least.y f.height a.least.y a.height place.y.from place.y.to high))
    (common_within (negsuc 33554431) 67108864 f.least.z f.length a.least.z a.length place.z.from place.z.to long))

-- ---- by intervals

-- where two boxes have nothing in common, the box of it has no block
pub none_in_common : (f a : Area) → is_without (common_extent (extent_of f) (extent_of a)) ≡ true → volume (common_box f a) ≡ 0
none_in_common f a h = no_block (common_extent (extent_of f) (extent_of a)) (is_empty (common_extent (extent_of f) (extent_of a)).x) (is_empty (common_extent (extent_of f) (extent_of a)).y) (is_empty (common_extent (extent_of f) (extent_of a)).z) refl refl refl h
  where
    flat : (w h l : ℕ) → (w ≡ 0) ⊎ ((h ≡ 0) ⊎ (l ≡ 0)) → w * h * l ≡ 0
    flat w h l (inl e) = ap (λ (n : ℕ). n * h * l) e ∙ omega arith
    flat w h l (inr (inl e)) = ap (λ (n : ℕ). w * n * l) e ∙ omega arith
    flat w h l (inr (inr e)) = ap (λ (n : ℕ). w * h * n) e ∙ omega arith

    no_block : (e : Extent) (x y z : Bool) → is_empty e.x ≡ x → is_empty e.y ≡ y → is_empty e.z ≡ z → (is_empty e.x || is_empty e.y || is_empty e.z) ≡ true → volume (box_of e) ≡ 0
    no_block e true y z ex ey ez h = flat (size e.x) (size e.y) (size e.z) (inl (size_of_empty e.x ex))
    no_block e false true z ex ey ez h = flat (size e.x) (size e.y) (size e.z) (inr (inl (size_of_empty e.y ey)))
    no_block e false false true ex ey ez h = flat (size e.x) (size e.y) (size e.z) (inr (inr (size_of_empty e.z ez)))
    no_block e false false false ex ey ez h = let no : (false || false || false) ≡ true = subst (λ (b : Bool). (b || false || false) ≡ true) ex (subst (λ (b : Bool). (is_empty e.x || b || false) ≡ true) ey (subst (λ (b : Bool). (is_empty e.x || is_empty e.y || b) ≡ true) ez h)) in absurd cc

-- a box that is made or refused is made where it is a world's
pub made_box : (o : Option Area) (made whole : Area) → MatchOption o (is_world_box made ≡ false) (λ b. b ≡ made) → made ≡ whole → is_world_box whole ≡ true
    → MatchOption o (volume whole ≡ 0) (λ b. b ≡ whole)
made_box None made whole h e is = let no : is_world_box whole ≡ false = sym (ap is_world_box e) ∙ h in absurd cc
made_box (Some b) made whole h e is = h ∙ e

part_along : (a : ℤ) (m : ℕ) (b : ℤ) (n : ℕ) → 0 < common_count a m b n → is_within b n (int_max a b) (common_count a m b n) ≡ true
part_along a m b n some = grind (arith, ints)

-- a world's box that two boxes have in common is a part of the second
pub common_part : (f a b : Area) → is_world_box b ≡ true → b ≡ common_box f a → is_part b a ≡ true
common_part f a b world is =
    let fits = limits b world in
    let w : 0 < (common_box f a).width = subst (λ (c : Area). 0 < c.width) is fits.width in
    let h : 0 < (common_box f a).height = subst (λ (c : Area). 0 < c.height) is fits.height in
    let l : 0 < (common_box f a).length = subst (λ (c : Area). 0 < c.length) is fits.length in
    ap (λ c. is_part c a) is
    ∙ both_true (both_true (part_along f.least.x f.width a.least.x a.width w) (part_along f.least.y f.height a.least.y a.height h)) (part_along f.least.z f.length a.least.z a.length l)
