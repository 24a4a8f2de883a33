-- Blocks of a world's box are on the map.
use Rattle.std.proofs.Common.{◌≡◌, ℕ, Bool, true, false, ◌&&◌, ℤ, pos, negsuc, ◌+ℤ◌, ◌≤ℤ◌, ◌<ℤ◌, refl, sym, ◌∙◌, arith}
use Rattle.std.specs.Prelude.{int_le, int_lt}
use Rattle.std.proofs.lemmas.Int.{ints}
use Rattle.edit_terms.specs.declared.pos.Pos.{Pos}
use Rattle.edit_terms.specs.Area.{Area, holds, is_from, is_world_box}
use Rattle.edit_terms.proofs.AreaLemmas.{and_both, on_map, IsInRange}
use Rattle.std.specs.Cmp.Derive.{both_true}
use Rattle.clipboard_transform.specs.Bounds.{IsOnMap}
use Rattle.plain_terms.specs.Places.{is_placed_on_map}

-- one coordinate
record IsAmong (first : ℤ) (count : ℕ) (v : ℤ) : Type 0 where
  from : first ≤ℤ v
  to : v <ℤ (first +ℤ pos count)

among : (first : ℤ) (count : ℕ) (low : ℤ) (size : ℕ) (v : ℤ) → IsInRange first count low size → is_from low size v ≡ true → IsAmong first count v
among first count low size v range h =
    let parts = and_both (int_le low v) (int_lt v (low +ℤ pos size)) h in
    let p0 = parts.0 in let p1 = parts.1 in
    let from = range.from in let to = range.to in
    record { from = grind (arith, ints); to = grind (arith, ints) }

pub held_on_map : (a : Area) (p : Pos) → is_world_box a ≡ true → holds a p ≡ true → IsOnMap p
held_on_map a p fits held =
    let map = on_map a fits in
    let parts = and_both (is_from a.least.x a.width p.x && is_from a.least.y a.height p.y) (is_from a.least.z a.length p.z) held in
    let two = and_both (is_from a.least.x a.width p.x) (is_from a.least.y a.height p.y) parts.0 in
    let x = among (negsuc 33554431) 67108864 a.least.x a.width p.x map.x two.0 in
    let y = among (negsuc 2047) 4096 a.least.y a.height p.y map.y two.1 in
    let z = among (negsuc 33554431) 67108864 a.least.z a.length p.z map.z parts.1 in
    record { least_x = x.from; most_x = x.to; least_y = y.from; most_y = y.to; least_z = z.from; most_z = z.to }

-- no block of the box is below or above the map
pub off_map : (a : Area) (p : Pos) → is_world_box a ≡ true → is_from (negsuc 2047) 4096 p.y ≡ false → holds a p ≡ false
off_map a p fits off = by_test (holds a p) refl
  where
    by_test : (b : Bool) → holds a p ≡ b → b ≡ false
    by_test false h = refl
    by_test true h =
        let map = held_on_map a p fits h in
        let low = map.least_y in let high = map.most_y in
        absurd (grind (arith, ints))

-- nor is one off it along any axis
pub off_any_map : (a : Area) (p : Pos) → is_world_box a ≡ true → is_placed_on_map p ≡ false → holds a p ≡ false
off_any_map a p fits off = by_test (holds a p) refl
  where
    all_true : (x y z : Bool) → x ≡ true → y ≡ true → z ≡ true → (x && y && z) ≡ true
    all_true x y z hx hy hz = both_true (both_true hx hy) hz

    by_test : (b : Bool) → holds a p ≡ b → b ≡ false
    by_test false h = refl
    by_test true h =
        let map = held_on_map a p fits h in
        let x0 = map.least_x in let x1 = map.most_x in let y0 = map.least_y in let y1 = map.most_y in let z0 = map.least_z in let z1 = map.most_z in
        let x : is_from (negsuc 33554431) 67108864 p.x ≡ true = grind (arith, ints) in
        let y : is_from (negsuc 2047) 4096 p.y ≡ true = grind (arith, ints) in
        let z : is_from (negsuc 33554431) 67108864 p.z ≡ true = grind (arith, ints) in
        sym (all_true _ _ _ x y z) ∙ off
