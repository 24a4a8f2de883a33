-- The part of a chunk in a world's box is itself the box of a world, it is the same for each of its blocks, and
-- its blocks have the same order in it as in the whole box.
use Rattle.std.proofs.Common.{◌≡◌, ℕ, ◌+◌, ◌*◌, ◌<◌, ◌≤◌, true, ◌&&◌, ◌⊎◌, inl, inr, ℤ, pos, negsuc, ◌+ℤ◌, ◌-ℤ◌, ◌*ℤ◌, ◌≤ℤ◌, ◌<ℤ◌, ap, ◌∙◌, subst, arith}
use Rattle.std.specs.Prelude.{nat_le, nat_abs}
use Rattle.std.specs.Int.{int_max, int_min}
use Rattle.std.specs.Cmp.Derive.{both_true}
use Rattle.std.proofs.lemmas.Bool.{cases_lt}
use Rattle.std.proofs.lemmas.Nat.{mul-add-lt}
use Rattle.std.proofs.Math.Nat.{mul-le-mul, mul-le-mul_right}
use Rattle.std.proofs.lemmas.Int.{ints}
use Rattle.edit_terms.specs.declared.pos.Pos.{Pos}
use Rattle.edit_terms.specs.Area.{Area, volume, is_from, is_within, holds, offset, index_of, is_size, is_sized, is_world_box, sixteenth}
use Rattle.edit_terms.specs.Frame.{common_count, count_up_to}
use Rattle.edit_terms.proofs.AreaLemmas.{and_both, limits, on_map, offset_of}
use Rattle.edit_terms.specs.Chunk.{column_start, first_in_column, count_in_column, chunk_box}

-- a coordinate lies in its column
pub record IsInColumn (v : ℤ) : Type 0 where
  pub low : column_start v ≤ℤ v
  pub high : v <ℤ (column_start v +ℤ pos 16)

pub in_column : (v : ℤ) → IsInColumn v
in_column (pos a) = record { low = omega (arith, ints); high = omega (arith, ints) }
in_column (negsuc a) = record { low = omega (arith, ints); high = omega (arith, ints) }

-- what the part of a column in a span of coordinates is
pub record IsCut (low : ℤ) (size : ℕ) (first : ℤ) (count : ℕ) (v : ℤ) : Type 0 where
  pub some : 0 < count
  pub few : count ≤ 16
  pub narrow : count ≤ size
  pub from : low ≤ℤ first
  pub to : (first +ℤ pos count) ≤ℤ (low +ℤ pos size)
  pub held : is_from first count v ≡ true

-- the part of 16 coordinates from s on, where v is among them and in the span
cut_at : (low : ℤ) (size : ℕ) (s v : ℤ) → is_from low size v ≡ true → s ≤ℤ v → v <ℤ (s +ℤ pos 16) → IsCut low size (int_max low s) (common_count low size s 16) v
cut_at low size s v h below above = record {
  some = grind (arith, ints);
  few = grind (arith, ints);
  narrow = grind (arith, ints);
  from = grind (arith, ints);
  to = grind (arith, ints);
  held = grind (arith, ints);
}

pub cut : (low : ℤ) (size : ℕ) (v : ℤ) → is_from low size v ≡ true → IsCut low size (first_in_column low v) (count_in_column low size v) v
cut low size v h = let c = in_column v in cut_at low size (column_start v) v h c.low c.high

-- the gap between two coordinates in order
count_of_gap : (end first : ℤ) → first ≤ℤ end → nat_abs (end -ℤ first) ≡ count_up_to (end -ℤ first)
count_of_gap end first order = grind (arith, ints)

-- how many coordinates a column has in a span, from its ends
pub count_between : (low : ℤ) (size : ℕ) (v first end : ℤ) → first ≡ first_in_column low v → end ≡ int_min (low +ℤ pos size) (column_start v +ℤ pos 16) → first ≤ℤ end
    → nat_abs (end -ℤ first) ≡ count_in_column low size v
count_between low size v first end is_first is_end order =
    rw (is_first, is_end) (count_of_gap (int_min (low +ℤ pos size) (column_start v +ℤ pos 16)) (int_max low (column_start v)) (rw (← is_first, ← is_end) order))

-- what lies in the part of a column lies in the span and in the column
pub record IsInCut (start : ℤ) (size : ℕ) (s u : ℤ) : Type 0 where
  pub held : is_from start size u ≡ true
  pub low : s ≤ℤ u
  pub high : u <ℤ (s +ℤ pos 16)

in_cut : (low : ℤ) (size : ℕ) (s u : ℤ) → is_from (int_max low s) (common_count low size s 16) u ≡ true → IsInCut low size s u
in_cut low size s u h = record { held = grind (arith, ints); low = grind (arith, ints); high = grind (arith, ints) }

-- a coordinate among the 16 of a column lies in that column
one_column : (s t u : ℤ) → (s *ℤ pos 16) ≤ℤ u → u <ℤ (s *ℤ pos 16 +ℤ pos 16) → (t *ℤ pos 16) ≤ℤ u → u <ℤ (t *ℤ pos 16 +ℤ pos 16) → t ≡ s
one_column s t u a b c d = omega (arith, ints)

pub same_column : (low : ℤ) (size : ℕ) (v u : ℤ) → is_from (first_in_column low v) (count_in_column low size v) u ≡ true → sixteenth u ≡ sixteenth v
same_column low size v u h =
    let c = in_cut low size (column_start v) u h in
    let d = in_column u in
    one_column (sixteenth v) (sixteenth u) u c.low c.high d.low d.high

-- the three tests of a position in a box
pub record IsHeld (a : Area) (p : Pos) : Type 0 where
  pub x : is_from a.least.x a.width p.x ≡ true
  pub y : is_from a.least.y a.height p.y ≡ true
  pub z : is_from a.least.z a.length p.z ≡ true

pub held_parts : (a : Area) (p : Pos) → holds a p ≡ true → IsHeld a p
held_parts a p h =
    let first = and_both (is_from a.least.x a.width p.x && is_from a.least.y a.height p.y) (is_from a.least.z a.length p.z) h in
    let two = and_both (is_from a.least.x a.width p.x) (is_from a.least.y a.height p.y) first.0 in
    record { x = two.0; y = two.1; z = first.1 }

pub held_from : (a : Area) (p : Pos) → IsHeld a p → holds a p ≡ true
held_from a p h = both_true (both_true h.x h.y) h.z

-- a position of the box is one of its chunk's part
pub part_held : (a : Area) (p : Pos) → holds a p ≡ true → holds (chunk_box a p) p ≡ true
part_held a p h =
    let parts = held_parts a p h in
    held_from (chunk_box a p) p (record { x = (cut a.least.x a.width p.x parts.x).held; y = parts.y; z = (cut a.least.z a.length p.z parts.z).held })

-- a position of a chunk's part is one of the box
pub in_part : (a : Area) (p q : Pos) → holds (chunk_box a p) q ≡ true → holds a q ≡ true
in_part a p q h =
    let parts = held_parts (chunk_box a p) q h in
    held_from a q (record { x = (in_cut a.least.x a.width (column_start p.x) q.x parts.x).held; y = parts.y; z = (in_cut a.least.z a.length (column_start p.z) q.z parts.z).held })

-- a chunk's part by the two columns that it lies in
part_of_columns : Area → ℤ → ℤ → Area
part_of_columns a sx sz = record {
  least = record { x = int_max a.least.x (sx *ℤ pos 16); y = a.least.y; z = int_max a.least.z (sz *ℤ pos 16) };
  width = common_count a.least.x a.width (sx *ℤ pos 16) 16;
  height = a.height;
  length = common_count a.least.z a.length (sz *ℤ pos 16) 16;
}

-- each position of a chunk's part has the same part
pub same_part : (a : Area) (p q : Pos) → holds (chunk_box a p) q ≡ true → chunk_box a q ≡ chunk_box a p
unfolding part_of_columns
same_part a p q h =
    let parts = held_parts (chunk_box a p) q h in
    let ex = same_column a.least.x a.width p.x q.x parts.x in
    let ez = same_column a.least.z a.length p.z q.z parts.z in
    ap (λ (s : ℤ). part_of_columns a s (sixteenth q.z)) ex ∙ ap (λ (s : ℤ). part_of_columns a (sixteenth p.x) s) ez

-- a smaller box in a world's box is itself the box of a world
size_true : (n : ℕ) → 0 < n → n ≤ 65535 → is_size n ≡ true
size_true n some few = grind arith

within_true : (first : ℤ) (count : ℕ) (low : ℤ) (size : ℕ) → first ≤ℤ low → (low +ℤ pos size) ≤ℤ (first +ℤ pos count) → is_within first count low size ≡ true
within_true first count low size from to = grind (arith, ints)

volume_le : (w h l W L : ℕ) → w ≤ W → l ≤ L → W * h * L ≤ 33554432 → nat_le (w * h * l) 33554432 ≡ true
volume_le w h l W L narrow short small =
    let layer : w * h ≤ W * h = mul-le-mul narrow (omega arith) in
    let all : w * h * l ≤ W * h * L = mul-le-mul layer short in
    grind arith

pub part_is_world_box : (a : Area) (p : Pos) → is_world_box a ≡ true → holds a p ≡ true → is_world_box (chunk_box a p) ≡ true
part_is_world_box a p box h =
    let fits = limits a box in
    let map = on_map a box in
    let parts = held_parts a p h in
    let x = cut a.least.x a.width p.x parts.x in
    let z = cut a.least.z a.length p.z parts.z in
    let w = count_in_column a.least.x a.width p.x in
    let l = count_in_column a.least.z a.length p.z in
    let sized : is_sized (chunk_box a p) ≡ true =
    both_true (both_true (both_true (size_true w x.some (omega (arith, x.few))) (size_true a.height fits.height fits.low)) (size_true l z.some (omega (arith, z.few))))
    (volume_le w a.height l a.width a.length x.narrow z.narrow fits.small) in
    let x_from : negsuc 33554431 ≤ℤ first_in_column a.least.x p.x = omega (arith, ints, map.x.from, x.from) in
    let x_to : (first_in_column a.least.x p.x +ℤ pos w) ≤ℤ (negsuc 33554431 +ℤ pos 67108864) = omega (arith, ints, map.x.to, x.to) in
    let z_from : negsuc 33554431 ≤ℤ first_in_column a.least.z p.z = omega (arith, ints, map.z.from, z.from) in
    let z_to : (first_in_column a.least.z p.z +ℤ pos l) ≤ℤ (negsuc 33554431 +ℤ pos 67108864) = omega (arith, ints, map.z.to, z.to) in
    both_true sized (both_true (both_true
    (within_true (negsuc 33554431) 67108864 (first_in_column a.least.x p.x) w x_from x_to)
    (within_true (negsuc 2047) 4096 a.least.y a.height map.y.from map.y.to))
    (within_true (negsuc 33554431) 67108864 (first_in_column a.least.z p.z) l z_from z_to))

pub part_small : (a : Area) (p : Pos) → is_world_box a ≡ true → holds a p ≡ true → volume (chunk_box a p) ≤ 33554432
part_small a p box h = (limits (chunk_box a p) (part_is_world_box a p box h)).small

-- what has the corner and the sizes of a chunk's part is the box of a world
pub parts_make_box : (a : Area) (p least : Pos) (w h l : ℕ) → is_world_box a ≡ true → holds a p ≡ true
    → least.x ≡ first_in_column a.least.x p.x → least.y ≡ a.least.y → least.z ≡ first_in_column a.least.z p.z
    → w ≡ count_in_column a.least.x a.width p.x → h ≡ a.height → l ≡ count_in_column a.least.z a.length p.z
    → is_world_box (record { least = least; width = w; height = h; length = l }) ≡ true
parts_make_box a p least w h l box held ex ey ez ew eh el =
    let same : record { least = least; width = w; height = h; length = l } ≡ chunk_box a p =
    λ i. record { least = record { x = ex i; y = ey i; z = ez i }; width = ew i; height = eh i; length = el i } in
    ap is_world_box same ∙ part_is_world_box a p box held

-- of two numbers with a lower digit each, the less has the less upper part, or the same and the less digit
digit_split : (b d e y y' : ℕ) → e < b → d + y * b < e + y' * b → (y < y') ⊎ ((y ≡ y') × (d < e))
digit_split b d e y y' small less = elim (cases_lt y y') as (λ _. (y < y') ⊎ ((y ≡ y') × (d < e))) [
  | inl up ↦ inl up
  | inr down ↦ elim (cases_lt y' y) as (λ _. (y < y') ⊎ ((y ≡ y') × (d < e))) [
    | inl far ↦ (let one : y' + 1 ≤ y = omega (arith, far) in let more : (y' + 1) * b ≤ y * b = mul-le-mul_right b one in absurd (omega (arith, more, less, small)))
    | inr same ↦ (let e1 : y ≡ y' = omega (arith, down, same) in let less1 : d + y' * b < e + y' * b = subst (λ (n : ℕ). d + n * b < e + y' * b) e1 less in inr (e1, omega (arith, less1)))
  ]
]

-- the number with the less upper part is the less
digit_join : (b d e y y' : ℕ) → d < b → y < y' → d + y * b < e + y' * b
digit_join b d e y y' small less =
    let one : y + 1 ≤ y' = omega (arith, less) in
    let more : (y + 1) * b ≤ y' * b = mul-le-mul_right b one in
    omega (arith, more, small)

-- the places in the box itself, from offsets and sizes
radix_row : (w l W L ox oz x z x' z' : ℕ) → x < w → x' < w → ox + w ≤ W → x + z * w < x' + z' * w
    → (ox + x) + (oz + z) * W < (ox + x') + (oz + z') * W
radix_row w l W L ox oz x z x' z' in_w in_w' narrow less = elim (digit_split w x x' z z' in_w' less) as (λ _. (ox + x) + (oz + z) * W < (ox + x') + (oz + z') * W) [
  | inl up ↦ digit_join W (ox + x) (ox + x') (oz + z) (oz + z') (omega (arith, in_w, narrow)) (omega (arith, up))
  | inr same ↦ (let east = same.1 in subst (λ (n : ℕ). (ox + x) + (oz + z) * W < (ox + x') + (oz + n) * W) same.0 (omega (arith, east)))
]

-- two places of a smaller box in the same order as in the box that it lies in, by offsets and sizes
radix_order : (w l W L ox oz x z y x' z' y' : ℕ) → x < w → z < l → x' < w → z' < l → ox + w ≤ W → oz + l ≤ L
    → x + z * w + y * (w * l) < x' + z' * w + y' * (w * l)
    → (ox + x) + (oz + z) * W + y * (W * L) < (ox + x') + (oz + z') * W + y' * (W * L)
radix_order w l W L ox oz x z y x' z' y' in_w in_l in_w' in_l' narrow short less =
    let row : z' * w + x' < w * l = omega (arith, mul-add-lt z' w x' l in_l' in_w') in
    let small : x' + z' * w < w * l = omega (arith, row) in
    let wide : (oz + z) * W + (ox + x) < W * L = omega (arith, mul-add-lt (oz + z) W (ox + x) L (omega (arith, in_l, short)) (omega (arith, in_w, narrow))) in
    let whole : (ox + x) + (oz + z) * W < W * L = omega (arith, wide) in
    elim (digit_split (w * l) (x + z * w) (x' + z' * w) y y' small less) as (λ _. (ox + x) + (oz + z) * W + y * (W * L) < (ox + x') + (oz + z') * W + y' * (W * L)) [
      | inl up ↦ digit_join (W * L) ((ox + x) + (oz + z) * W) ((ox + x') + (oz + z') * W) y y' whole up
      | inr same ↦ (let rows = radix_row w l W L ox oz x z x' z' in_w in_w' narrow same.1 in
          subst (λ (n : ℕ). (ox + x) + (oz + z) * W + y * (W * L) < (ox + x') + (oz + z') * W + n * (W * L)) same.0 (omega (arith, rows)))
    ]

-- the place of a block of a smaller box in the box that it lies in
place_by_offsets : (low first : ℤ) (size count : ℕ) (v : ℤ) → low ≤ℤ first → (first +ℤ pos count) ≤ℤ (low +ℤ pos size) → is_from first count v ≡ true
    → (offset low v ≡ offset low first + offset first v) × (offset low first + count ≤ size)
place_by_offsets low first size count v from to held = (grind (arith, ints), grind (arith, ints))

-- the order of two blocks of a chunk's part is that of the box
pub part_order : (a : Area) (p q r : Pos) → holds a p ≡ true → holds (chunk_box a p) q ≡ true → holds (chunk_box a p) r ≡ true
    → index_of (chunk_box a p) q < index_of (chunk_box a p) r → index_of a q < index_of a r
part_order a p q r h hq hr less =
    let part = chunk_box a p in
    let parts = held_parts a p h in
    let x = cut a.least.x a.width p.x parts.x in
    let z = cut a.least.z a.length p.z parts.z in
    let pq = held_parts part q hq in
    let pr = held_parts part r hr in
    let qx = place_by_offsets a.least.x part.least.x a.width part.width q.x x.from x.to pq.x in
    let qz = place_by_offsets a.least.z part.least.z a.length part.length q.z z.from z.to pq.z in
    let rx = place_by_offsets a.least.x part.least.x a.width part.width r.x x.from x.to pr.x in
    let rz = place_by_offsets a.least.z part.least.z a.length part.length r.z z.from z.to pr.z in
    let in_order = radix_order part.width part.length a.width a.length (offset a.least.x part.least.x) (offset a.least.z part.least.z)
    (offset part.least.x q.x) (offset part.least.z q.z) (offset a.least.y q.y) (offset part.least.x r.x) (offset part.least.z r.z) (offset a.least.y r.y)
    (offset_of part.least.x part.width q.x pq.x).below (offset_of part.least.z part.length q.z pq.z).below
    (offset_of part.least.x part.width r.x pr.x).below (offset_of part.least.z part.length r.z pr.z).below
    qx.1 qz.1 less in
    rw (qx.0, qz.0, rx.0, rz.0) in_order
