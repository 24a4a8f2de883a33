-- A block of the world's box that lies in one of some boxes lies in one of their chunks.
use Rattle.std.proofs.Common.{◌≡◌, ℕ, zero, suc, ◌+◌, ◌-◌, ◌<◌, ◌≤◌, eqb, Bool, true, false, cond, ◌&&◌, ◌||◌, List, [], ◌∷◌, ℤ, pos, negsuc, ◌+ℤ◌, ◌-ℤ◌, ◌*ℤ◌, ◌≤ℤ◌, ◌<ℤ◌, refl, sym, ap, ◌∙◌, inl, inr, arith}
use Rattle.std.specs.Prelude.{nat_abs, int_le, int_lt, filter}
use Rattle.std.specs.List.{range_with_len, list_any}
use Rattle.std.specs.Cmp.Derive.{both_true}
use Rattle.std.proofs.lemmas.Bool.{cases_lt, eq-eqb}
use Rattle.std.proofs.lemmas.Int.{ints}
use Rattle.std.proofs.lemmas.Nat.{mul-add-lt}
use Rattle.edit_terms.specs.declared.pos.Pos.{Pos}
use Rattle.edit_terms.specs.Area.{Area, is_from, holds, volume, index_of, position_of, offset, sixteenth, columns, chunks, chunk_of}
use Rattle.edit_terms.specs.Frame.{common_box}
use Rattle.edit_terms.proofs.AreaLemmas.{and_both, position_at_index, held_below}
use Rattle.edit_terms.proofs.RegionLemmas.{in_common_box}
use Rattle.run_terms.specs.Access.{is_chunk_of_box, chunks_of_boxes}
use Rattle.access_laws.specs.Locality.{is_among}

-- ---- lists of consecutive numbers

pub or_second : (a b : Bool) → b ≡ true → (a || b) ≡ true
or_second true b h = refl
or_second false b h = h

pub or_first : (a b : Bool) → a ≡ true → (a || b) ≡ true
or_first true b h = refl
or_first false b h = absurd cc

-- a number of the range that passes the test is found
pub any_of_range : (test : ℕ → Bool) (a n k : ℕ) → a ≤ k → k < a + n → test k ≡ true → list_any test (range_with_len a n) ≡ true
any_of_range test a zero k low high h = absurd (omega (arith, low, high))
any_of_range test a (suc n) k low high h = elim (cases_lt a k) [
  | inl below ↦ or_second (test a) (list_any test (range_with_len (a + 1) n)) (any_of_range test (a + 1) n k (omega (arith, below)) (omega (arith, high)) h)
  | inr above ↦ let e : a ≡ k = omega (arith, low, above) in or_first (test a) (list_any test (range_with_len (a + 1) n)) (ap test e ∙ h)
]

among_filtered : (test : ℕ → Bool) (x : ℕ) (xs : List ℕ) (k : ℕ) (b : Bool) → test x ≡ b → test k ≡ true → list_any (λ m. eqb m k) (filter test xs) ≡ list_any (λ m. eqb m k) xs
    → list_any (λ m. eqb m k) (cond b (x ∷ filter test xs) (filter test xs)) ≡ (eqb x k || list_any (λ m. eqb m k) xs)
among_filtered test x xs k true is h same = ap (λ (b : Bool). eqb x k || b) same
among_filtered test x xs k false is h same = same ∙ sym (ap (λ (b : Bool). b || list_any (λ m. eqb m k) xs) other)
  where
    other : eqb x k ≡ false
    other = by_test (eqb x k) refl
      where
        by_test : (b : Bool) → eqb x k ≡ b → b ≡ false
        by_test false e = refl
        by_test true e = let same_number : x ≡ k = grind (arith) in let passes : test x ≡ true = ap test same_number ∙ h in absurd cc

-- what passes the test is found in a filtered list as in the whole one
pub any_of_filter : (test : ℕ → Bool) (xs : List ℕ) (k : ℕ) → test k ≡ true → list_any (λ m. eqb m k) (filter test xs) ≡ list_any (λ m. eqb m k) xs
any_of_filter test [] k h = refl
any_of_filter test (x ∷ xs) k h = among_filtered test x xs k (test x) refl h (any_of_filter test xs k h)

-- ---- columns of 16

sixteenth_low : (v : ℤ) → (sixteenth v *ℤ pos 16) ≤ℤ v
sixteenth_low (pos a) = grind (arith, ints)
sixteenth_low (negsuc a) = grind (arith, ints)

sixteenth_high : (v : ℤ) → v <ℤ (sixteenth v *ℤ pos 16 +ℤ pos 16)
sixteenth_high (pos a) = grind (arith, ints)
sixteenth_high (negsuc a) = grind (arith, ints)

sixteenth_rises : (u v : ℤ) → u ≤ℤ v → sixteenth u ≤ℤ sixteenth v
sixteenth_rises u v h = let a = sixteenth_low u in let b = sixteenth_high v in grind (arith, ints)

-- a coordinate of the box and the box's last one
record IsUpToLast (low : ℤ) (size : ℕ) (v : ℤ) : Type 0 where
  from : low ≤ℤ v
  to : v ≤ℤ (low +ℤ pos (size - 1))

up_to_last : (low : ℤ) (size : ℕ) (v : ℤ) → is_from low size v ≡ true → IsUpToLast low size v
up_to_last low size v h =
    let parts = and_both (int_le low v) (int_lt v (low +ℤ pos size)) h in
    let p0 = parts.0 in let p1 = parts.1 in
    record { from = grind (arith, ints); to = grind (arith, ints) }

column_below : (low : ℤ) (size : ℕ) (v : ℤ) → is_from low size v ≡ true → offset (sixteenth low) (sixteenth v) < columns low size
column_below low size v h =
    let parts = up_to_last low size v h in
    below (sixteenth low) (sixteenth v) (sixteenth (low +ℤ pos (size - 1))) (sixteenth_rises low v parts.from) (sixteenth_rises v (low +ℤ pos (size - 1)) parts.to)
  where
    below : (a b c : ℤ) → a ≤ℤ b → b ≤ℤ c → nat_abs (b -ℤ a) < nat_abs (c -ℤ a) + 1
    below a b c p q = grind (arith, ints)

-- a block of the box lies in one of the box's chunks
pub chunk_below : (a : Area) (p : Pos) → holds a p ≡ true → chunk_of a p < chunks a
chunk_below a p h =
    let first = and_both (is_from a.least.x a.width p.x && is_from a.least.y a.height p.y) (is_from a.least.z a.length p.z) h in
    let two = and_both (is_from a.least.x a.width p.x) (is_from a.least.y a.height p.y) first.0 in
    let row = column_below a.least.x a.width p.x two.0 in
    let column = column_below a.least.z a.length p.z first.1 in
    let all = mul-add-lt (offset (sixteenth a.least.z) (sixteenth p.z)) (columns a.least.x a.width) (offset (sixteenth a.least.x) (sixteenth p.x)) (columns a.least.z a.length) column row in
    omega (arith, all)

-- ---- the chunks of boxes

chunk_of_box : (area box : Area) (p : Pos) → holds area p ≡ true → holds box p ≡ true → is_chunk_of_box area (chunk_of area p) box ≡ true
chunk_of_box area box p here there =
    let shared = common_box box area in
    let h : holds shared p ≡ true = in_common_box box area p ∙ both_true there here in
    any_of_range (λ index. eqb (chunk_of area (position_of shared index)) (chunk_of area p)) 0 (volume shared) (index_of shared p) (omega arith) (omega (arith, held_below shared p h))
    (ap (λ (q : Pos). eqb (chunk_of area q) (chunk_of area p)) (position_at_index shared p h) ∙ eq-eqb (chunk_of area p) (chunk_of area p) refl)

pub some_box : (area : Area) (boxes : List Area) (p : Pos) → holds area p ≡ true → list_any (λ box. holds box p) boxes ≡ true → list_any (is_chunk_of_box area (chunk_of area p)) boxes ≡ true
some_box area [] p here there = absurd cc
some_box area (box ∷ boxes) p here there = by_head (some_box area boxes p here) (holds box p) refl there
  where
    by_head : (list_any (λ other. holds other p) boxes ≡ true → list_any (is_chunk_of_box area (chunk_of area p)) boxes ≡ true)
        → (b : Bool) → holds box p ≡ b → (b || list_any (λ other. holds other p) boxes) ≡ true → (is_chunk_of_box area (chunk_of area p) box || list_any (is_chunk_of_box area (chunk_of area p)) boxes) ≡ true
    by_head later true is h = or_first (is_chunk_of_box area (chunk_of area p) box) (list_any (is_chunk_of_box area (chunk_of area p)) boxes) (chunk_of_box area box p here is)
    by_head later false is h = or_second (is_chunk_of_box area (chunk_of area p) box) (list_any (is_chunk_of_box area (chunk_of area p)) boxes) (later h)

-- a block of the world's box in one of these boxes lies in one of their chunks
pub among_chunks_of_boxes : (area : Area) (boxes : List Area) (p : Pos) → holds area p ≡ true → list_any (λ box. holds box p) boxes ≡ true → is_among (chunks_of_boxes area boxes) (chunk_of area p) ≡ true
among_chunks_of_boxes area boxes p here there =
    any_of_filter (λ chunk. list_any (is_chunk_of_box area chunk) boxes) (range_with_len 0 (chunks area)) (chunk_of area p) (some_box area boxes p here there)
    ∙ any_of_range (λ m. eqb m (chunk_of area p)) 0 (chunks area) (chunk_of area p) (omega arith) (omega (arith, chunk_below area p here)) (eq-eqb (chunk_of area p) (chunk_of area p) refl)
