-- The blocks of a world's box have coordinates of 32 bits, as they are and counted from the least corner.
use Rattle.std.proofs.Common.{◌≡◌, ℕ, ◌≤◌, Bool, true, false, ◌&&◌, ℤ, negsuc, ◌-ℤ◌, refl, arith, FitsSigned}
use Rattle.std.specs.Int.{w32}
use Rattle.std.proofs.lemmas.Int.{ints}
use Rattle.edit_terms.specs.declared.pos.Pos.{Pos}
use Rattle.edit_terms.specs.Area.{Area, is_from, holds, is_world_box}
use Rattle.edit_terms.specs.Clipboard.{relative_to}
use Rattle.edit_terms.proofs.AreaLemmas.{and_both, IsInRange, offset_of, on_map, limits}

-- the coordinates of a position have 32 bits
pub record HasFit (p : Pos) : Type 0 where
  pub x : FitsSigned w32 p.x
  pub y : FitsSigned w32 p.y
  pub z : FitsSigned w32 p.z

wide_fits : (low v : ℤ) (size : ℕ) → IsInRange (negsuc 33554431) 67108864 low size → is_from low size v ≡ true → FitsSigned w32 v
wide_fits low v size range h =
    let o = offset_of low size v h in
    let below = o.below in let back = o.back in let from = range.from in let to = range.to in
    grind (arith, ints)

high_fits : (low v : ℤ) (size : ℕ) → IsInRange (negsuc 2047) 4096 low size → is_from low size v ≡ true → FitsSigned w32 v
high_fits low v size range h =
    let o = offset_of low size v h in
    let below = o.below in let back = o.back in let from = range.from in let to = range.to in
    grind (arith, ints)

near_fits : (low v : ℤ) (size : ℕ) → size ≤ 65535 → is_from low size v ≡ true → FitsSigned w32 (v -ℤ low)
near_fits low v size small h =
    let o = offset_of low size v h in
    let below = o.below in let back = o.back in
    grind (arith, ints)

-- the three tests of a block
pub record HoldsEach (a : Area) (p : Pos) : Type 0 where
  pub x : is_from a.least.x a.width p.x ≡ true
  pub y : is_from a.least.y a.height p.y ≡ true
  pub z : is_from a.least.z a.length p.z ≡ true

pub each_held : (a : Area) (p : Pos) → holds a p ≡ true → HoldsEach a p
each_held a p h =
    let first = and_both (is_from a.least.x a.width p.x && is_from a.least.y a.height p.y) (is_from a.least.z a.length p.z) h in
    let two = and_both (is_from a.least.x a.width p.x) (is_from a.least.y a.height p.y) first.0 in
    record { x = two.0; y = two.1; z = first.1 }

-- a block of a world's box
pub held_fits : (a : Area) (p : Pos) → is_world_box a ≡ true → holds a p ≡ true → HasFit p
held_fits a p box h =
    let each = each_held a p h in
    let map = on_map a box in
    record { x = wide_fits _ _ _ map.x each.x; y = high_fits _ _ _ map.y each.y; z = wide_fits _ _ _ map.z each.z }

-- a block of a world's box, counted from the least corner
pub local_fits : (a : Area) (p : Pos) → is_world_box a ≡ true → holds a p ≡ true → HasFit (relative_to a.least p)
local_fits a p box h =
    let each = each_held a p h in
    let limit = limits a box in
    record {
      x = near_fits a.least.x p.x a.width limit.narrow each.x;
      y = near_fits a.least.y p.y a.height limit.low each.y;
      z = near_fits a.least.z p.z a.length limit.short each.z;
    }

pub not_true : (b : Bool) → (b ≡ true → ⊥) → b ≡ false
not_true true h = absurd (h refl)
not_true false h = refl

-- a position with a longer coordinate lies in no world's box
pub not_held_x : (a : Area) (p : Pos) → (FitsSigned w32 p.x → ⊥) → is_world_box a ≡ true → holds a p ≡ false
not_held_x a p long box = not_true (holds a p) (λ h. long (held_fits a p box h).x)

pub not_held_y : (a : Area) (p : Pos) → (FitsSigned w32 p.y → ⊥) → is_world_box a ≡ true → holds a p ≡ false
not_held_y a p long box = not_true (holds a p) (λ h. long (held_fits a p box h).y)

pub not_held_z : (a : Area) (p : Pos) → (FitsSigned w32 p.z → ⊥) → is_world_box a ≡ true → holds a p ≡ false
not_held_z a p long box = not_true (holds a p) (λ h. long (held_fits a p box h).z)
