-- Each position of a world's box has a place that the generator has, for each use.
use Rattle.std.proofs.Common.{◌≡◌, ℕ, ◌+◌, ◌*◌, ◌^◌, ◌<◌, true, ◌&&◌, ℤ, pos, negsuc, ◌+ℤ◌, arith}
use Rattle.std.specs.Prelude.{int_le, int_lt}
use Rattle.std.proofs.lemmas.Int.{ints}
use Rattle.edit_terms.specs.declared.pos.Pos.{Pos}
use Rattle.edit_terms.specs.Area.{Area, is_from, is_world_box, holds, offset}
use Rattle.edit_terms.specs.Draw.{draw_place}
use Rattle.edit_terms.proofs.AreaLemmas.{and_both, on_map, IsInRange}

place_below : (x z y use_number : ℕ) → x < 2 ^ 26 → z < 2 ^ 26 → y < 2 ^ 12 → use_number < 16 → ((x * 2 ^ 26 + z) * 2 ^ 12 + y) * 16 + use_number < 2 ^ 68
place_below x z y use_number hx hz hy hu = omega (arith, hx, hz, hy, hu)

-- a coordinate of a box that lies within a range is less far from the range's first than it is long
coordinate_below : (first : ℤ) (count : ℕ) (low : ℤ) (size : ℕ) (v : ℤ) → IsInRange first count low size → is_from low size v ≡ true → offset first v < count
coordinate_below first count low size v range h =
    let parts = and_both (int_le low v) (int_lt v (low +ℤ pos size)) h in
    let p0 = parts.0 in let p1 = parts.1 in
    let from = range.from in let to = range.to in
    grind (arith, ints)

pub draw_place-below : (a : Area) (p : Pos) (use_number : ℕ) → is_world_box a ≡ true → holds a p ≡ true → use_number < 16 → draw_place p use_number < 2 ^ 68
draw_place-below a p use_number fits held below =
    let map = on_map a fits in
    let parts = and_both (is_from a.least.x a.width p.x && is_from a.least.y a.height p.y) (is_from a.least.z a.length p.z) held in
    let two = and_both (is_from a.least.x a.width p.x) (is_from a.least.y a.height p.y) parts.0 in
    place_below (offset (negsuc 33554431) p.x) (offset (negsuc 33554431) p.z) (offset (negsuc 2047) p.y) use_number
    (coordinate_below (negsuc 33554431) 67108864 a.least.x a.width p.x map.x two.0)
    (coordinate_below (negsuc 33554431) 67108864 a.least.z a.length p.z map.z parts.1)
    (coordinate_below (negsuc 2047) 4096 a.least.y a.height p.y map.y two.1)
    below
