-- Which chunks have a block of a box.
--
-- A chunk of a box is one with a block of both the box and the world's box. Along each axis the columns of these
-- blocks are a run.
use Rattle.std.proofs.Common.{◌≡◌, ℕ, zero, suc, ◌+◌, ◌-◌, ◌*◌, ◌/◌, ◌%◌, ◌<◌, ◌≤◌, eqb, inl, inr, Bool, true, false, ◌&&◌, ◌||◌, List, [], ◌∷◌, map, ℤ, pos, ◌+ℤ◌, ◌-ℤ◌, ◌*ℤ◌, ◌≤ℤ◌, refl, sym, ◌∙◌, ap, subst, arith}
use Rattle.std.specs.Prelude.{nat_le, nat_lt}
use Rattle.std.specs.Int.{int_max}
use Rattle.std.specs.List.{list_any, range_with_len}
use Rattle.std.specs.Cmp.Derive.{both_true}
use Rattle.std.proofs.lemmas.Bool.{eq-eqb, eqb-true, cases_lt}
use Rattle.std.proofs.lemmas.Bool.Decides.{nat_tests}
use Rattle.std.proofs.lemmas.Int.{ints}
use Rattle.std.proofs.lemmas.Nat.{div-mul-add, mod-mul-add, div-add-mod', div_below, mod_below}
use Rattle.edit_terms.specs.declared.pos.Pos.{Pos}
use Rattle.edit_terms.specs.Area.{Area, volume, is_from, holds, offset, sixteenth, columns, index_of, position_of, chunk_of}
use Rattle.edit_terms.specs.Frame.{common_box, common_count}
use Rattle.edit_terms.proofs.AreaLemmas.{and_both, held_below, position_at_index}
use Rattle.edit_terms.proofs.RegionLemmas.{in_common_box}
use Rattle.run_terms.specs.Access.{is_chunk_of_box}
use Rattle.command_plan.specs.declared.rectangle.Run.{Run}
use Rattle.command_plan.specs.Rectangles.{is_among, covers, chunk_grid_of, IsRunWithin, IsInside}
use Rattle.region_shapes.specs.Interval.{common, numbers_from}
use Rattle.command_plan.specs.Cuts.{IsRunOf, IsCover, IsApart}
use Rattle.edit_terms.proofs.ColumnLemmas.{block_in_column, column_of_block, columns_within}

-- ---- tests

pub same_tests : (a b : Bool) → (a ≡ true → b ≡ true) → (b ≡ true → a ≡ true) → a ≡ b
same_tests true b there back = sym (there refl)
same_tests false true there back = back refl
same_tests false false there back = refl

-- a number of a range that passes a test
pub record IsFound (test : ℕ → Bool) (a n : ℕ) : Type 0 where
  pub place : ℕ
  pub from : a ≤ place
  pub to : place < a + n
  pub is : test place ≡ true

later : (test : ℕ → Bool) (a n : ℕ) → IsFound test (a + 1) n → IsFound test a (suc n)
later test a n found =
    let from = found.from in let to = found.to in
    record { place = found.place; from = omega arith; to = omega arith; is = found.is }

pub found_in : (test : ℕ → Bool) (a n : ℕ) → list_any test (range_with_len a n) ≡ true → IsFound test a n
found_in test a zero h = absurd cc
found_in test a (suc n) h = by_first (test a) refl h (λ g. found_in test (a + 1) n g)
  where
    by_first : (b : Bool) → test a ≡ b → (b || list_any test (range_with_len (a + 1) n)) ≡ true → (list_any test (range_with_len (a + 1) n) ≡ true → IsFound test (a + 1) n) → IsFound test a (suc n)
    by_first true is h rest = record { place = a; from = omega arith; to = omega arith; is = is }
    by_first false is h rest = later test a n (rest h)

or_right : (b c : Bool) → c ≡ true → (b || c) ≡ true
or_right true c h = refl
or_right false c h = h

or_left : (b c : Bool) → b ≡ true → (b || c) ≡ true
or_left true c h = refl
or_left false c h = absurd cc

pub any_found : (test : ℕ → Bool) (a n k : ℕ) → a ≤ k → k < a + n → test k ≡ true → list_any test (range_with_len a n) ≡ true
any_found test a zero k from to is = absurd (omega (arith, from, to))
any_found test a (suc n) k from to is = elim (cases_lt a k) as (λ _. (test a || list_any test (range_with_len (a + 1) n)) ≡ true) [
  | inl more ↦ or_right (test a) (list_any test (range_with_len (a + 1) n)) (any_found test (a + 1) n k (omega (arith, more)) (omega (arith, to)) is)
  | inr same ↦
      let e : k ≡ a = omega (arith, same, from) in
      or_left (test a) (list_any test (range_with_len (a + 1) n)) (subst (λ (j : ℕ). test j ≡ true) e is)
]

pub any_of_map : {X Y : Type 0} (test : Y → Bool) (f : X → Y) (xs : List X) → list_any test (map f xs) ≡ list_any (λ x. test (f x)) xs
any_of_map test f [] = refl
any_of_map test f (x ∷ xs) = ap (λ (b : Bool). test (f x) || b) (any_of_map test f xs)

-- ---- blocks of a box

parts_of : (x y z : Bool) → (x && y && z) ≡ true → (x ≡ true) × (y ≡ true) × (z ≡ true)
parts_of x y z h = let first = and_both (x && y) z h in let two = and_both x y first.0 in (two.0, two.1, first.1)

pub holds_parts : (a : Area) (p : Pos) → holds a p ≡ true → (is_from a.least.x a.width p.x ≡ true) × (is_from a.least.y a.height p.y ≡ true) × (is_from a.least.z a.length p.z ≡ true)
holds_parts a p h = parts_of (is_from a.least.x a.width p.x) (is_from a.least.y a.height p.y) (is_from a.least.z a.length p.z) h

some_factors : (a b : ℕ) → 0 < a * b → (0 < a) × (0 < b)
some_factors zero b h = absurd (omega (arith, h))
some_factors (suc a) zero h = absurd (omega (arith, h))
some_factors (suc a) (suc b) h = (omega arith, omega arith)

from_back : (low : ℤ) (size k : ℕ) → k < size → is_from low size (low +ℤ pos k) ≡ true
from_back low size k h = grind (arith, ints)

held_at : (a : Area) (i : ℕ) → i < volume a → holds a (position_of a i) ≡ true
held_at a i below =
    let some : 0 < a.width * a.height * a.length = omega (arith, below) in
    let last = some_factors (a.width * a.height) a.length some in
    let first = some_factors a.width a.height last.0 in
    let layer : 0 < a.width * a.length = product a.width a.length first.0 last.1 in
    let order : i < a.height * (a.width * a.length) = omega (arith, below) in
    both_true (both_true (from_back a.least.x a.width (i % a.width) (mod_below i a.width first.0))
    (from_back a.least.y a.height (i / (a.width * a.length)) (div_below i (a.width * a.length) a.height layer order)))
    (from_back a.least.z a.length (i / a.width % a.length) (mod_below (i / a.width) a.length last.1))
  where
    product : (m n : ℕ) → 0 < m → 0 < n → 0 < m * n
    product zero n h k = absurd (omega (arith, h))
    product (suc m) n h k = omega (arith, k)

-- a block of a box and of the world's box in a chunk
pub record IsBlockIn (area box : Area) (chunk : ℕ) : Type 0 where
  pub block : Pos
  pub in_box : holds box block ≡ true
  pub in_area : holds area block ≡ true
  pub place : chunk_of area block ≡ chunk

pub block_of_chunk : (area box : Area) (chunk : ℕ) → is_chunk_of_box area chunk box ≡ true → IsBlockIn area box chunk
block_of_chunk area box chunk h =
    let shared = common_box box area in
    let found = found_in (λ index. eqb (chunk_of area (position_of shared index)) chunk) 0 (volume shared) h in
    let p = position_of shared found.place in
    let to = found.to in
    let held : holds shared p ≡ true = held_at shared found.place (omega arith) in
    let both = and_both (holds box p) (holds area p) (sym (in_common_box box area p) ∙ held) in
    record { block = p; in_box = both.0; in_area = both.1; place = eqb-true (chunk_of area p) chunk found.is }

pub chunk_of_block : (area box : Area) (chunk : ℕ) → IsBlockIn area box chunk → is_chunk_of_box area chunk box ≡ true
chunk_of_block area box chunk is =
    let shared = common_box box area in
    let p = is.block in
    let held : holds shared p ≡ true = in_common_box box area p ∙ both_true is.in_box is.in_area in
    let below = held_below shared p held in
    any_found (λ index. eqb (chunk_of area (position_of shared index)) chunk) 0 (volume shared) (index_of shared p) (omega arith) (omega (arith, below))
    (eq-eqb _ chunk (ap (chunk_of area) (position_at_index shared p held) ∙ is.place))

-- ---- the rectangle of a box

-- the columns of what the m numbers from a on have in common with the n numbers from b on
abbrev pub IsRunAlong : Run → ℤ → ℕ → ℤ → ℕ → Type 0
IsRunAlong r a m b n = IsRunOf r (common (numbers_from a m) (numbers_from b n)) (numbers_from b n)

among : (r : Run) (from size k : ℕ) → r.from ≡ from → r.to ≡ from + size → from ≤ k → k < from + size → is_among r k ≡ true
among r from size k f t low high = grind (arith, nat_tests)

record IsAmong (from size k : ℕ) : Type 0 where
  low : from ≤ k
  high : k < from + size

among_is : (r : Run) (from size k : ℕ) → r.from ≡ from → r.to ≡ from + size → is_among r k ≡ true → IsAmong from size k
among_is r from size k f t h =
    let parts = and_both (nat_le r.from k) (nat_lt k r.to) h in
    let p0 = parts.0 in let p1 = parts.1 in
    record { low = grind (arith, nat_tests); high = grind (arith, nat_tests) }

max_behind : (a b : ℤ) → b ≤ℤ int_max a b
max_behind a b = grind (arith, ints)

max_within : (a : ℤ) (m : ℕ) (b : ℤ) (n : ℕ) → 0 < common_count a m b n → (int_max a b +ℤ pos (common_count a m b n)) ≤ℤ (b +ℤ pos n)
max_within a m b n some = grind (arith, ints)

run_within : (r : Run) (a : ℤ) (m : ℕ) (b : ℤ) (n : ℕ) → IsRunAlong r a m b n → IsRunWithin r (columns b n)
run_within r a m b n is =
    let fits = columns_within b n (int_max a b) (common_count a m b n) is.some (record { from = max_behind a b; to = max_within a m b n is.some }) in
    let from = is.from in let to = is.to in
    record { order = omega arith; within = omega arith }

pub cover_inside : (area box : Area) (x z : Run) → IsRunAlong x box.least.x box.width area.least.x area.width → IsRunAlong z box.least.z box.length area.least.z area.length
    → IsInside (chunk_grid_of area) (record { x = x; z = z })
cover_inside area box x z is_x is_z = record {
  x = run_within x box.least.x box.width area.least.x area.width is_x;
  z = run_within z box.least.z box.length area.least.z area.length is_z;
}

block_covered : (area box : Area) (x z : Run) → IsRunAlong x box.least.x box.width area.least.x area.width → IsRunAlong z box.least.z box.length area.least.z area.length
    → (chunk : ℕ) → IsBlockIn area box chunk → covers (columns area.least.x area.width) (record { x = x; z = z }) chunk ≡ true
block_covered area box x z is_x is_z chunk is =
    let shared = common_box box area in
    let p = is.block in
    let held : holds shared p ≡ true = in_common_box box area p ∙ both_true is.in_box is.in_area in
    let parts = parts_of (is_from shared.least.x shared.width p.x) (is_from shared.least.y shared.height p.y) (is_from shared.least.z shared.length p.z) held in
    let cx = column_of_block area.least.x shared.least.x shared.width p.x (max_behind box.least.x area.least.x) parts.0 in
    let cz = column_of_block area.least.z shared.least.z shared.length p.z (max_behind box.least.z area.least.z) parts.2 in
    let ox = offset (sixteenth area.least.x) (sixteenth p.x) in
    let oz = offset (sixteenth area.least.z) (sixteenth p.z) in
    let wide = columns area.least.x area.width in
    let within = run_within x box.least.x box.width area.least.x area.width is_x in
    let inside : ox < wide = omega (arith, cx.to, is_x.to, within.within) in
    let flat : chunk ≡ oz * wide + ox = sym is.place ∙ omega arith in
    let row : chunk / wide ≡ oz = ap (λ (n : ℕ). n / wide) flat ∙ div-mul-add oz wide ox inside in
    let column : chunk % wide ≡ ox = ap (λ (n : ℕ). n % wide) flat ∙ mod-mul-add oz wide ox inside in
    both_true
    (ap (is_among x) column ∙ among x _ _ ox is_x.from is_x.to cx.from cx.to)
    (ap (is_among z) row ∙ among z _ _ oz is_z.from is_z.to cz.from cz.to)

covered_block : (area box : Area) (x z : Run) → IsRunAlong x box.least.x box.width area.least.x area.width → IsRunAlong z box.least.z box.length area.least.z area.length
    → 0 < common_count box.least.y box.height area.least.y area.height → (chunk : ℕ) → covers (columns area.least.x area.width) (record { x = x; z = z }) chunk ≡ true → IsBlockIn area box chunk
covered_block area box x z is_x is_z high chunk h =
    let shared = common_box box area in
    let wide = columns area.least.x area.width in
    let parts = and_both (is_among x (chunk % wide)) (is_among z (chunk / wide)) h in
    let ax = among_is x _ _ (chunk % wide) is_x.from is_x.to parts.0 in
    let az = among_is z _ _ (chunk / wide) is_z.from is_z.to parts.1 in
    let bx = block_in_column area.least.x shared.least.x shared.width (chunk % wide) (max_behind box.least.x area.least.x) is_x.some ax.low ax.high in
    let bz = block_in_column area.least.z shared.least.z shared.length (chunk / wide) (max_behind box.least.z area.least.z) is_z.some az.low az.high in
    let vx = int_max shared.least.x ((sixteenth area.least.x +ℤ pos (chunk % wide)) *ℤ pos 16) in
    let vz = int_max shared.least.z ((sixteenth area.least.z +ℤ pos (chunk / wide)) *ℤ pos 16) in
    let p : Pos = record { x = vx; y = shared.least.y; z = vz } in
    let held : holds shared p ≡ true = both_true (both_true bx.held (first_held shared.least.y shared.height high)) bz.held in
    let both = and_both (holds box p) (holds area p) (sym (in_common_box box area p) ∙ held) in
    record {
      block = p;
      in_box = both.0;
      in_area = both.1;
      place = rw (bx.column, bz.column) (omega (arith, div-add-mod' chunk wide));
    }
  where
    first_held : (low : ℤ) (size : ℕ) → 0 < size → is_from low size low ≡ true
    first_held low size h = grind (arith, ints)

or_none : (b : Bool) → (b || false) ≡ b
or_none true = refl
or_none false = refl

pub cover : (area box : Area) (x z : Run) → IsRunAlong x box.least.x box.width area.least.x area.width → 0 < common_count box.least.y box.height area.least.y area.height
    → IsRunAlong z box.least.z box.length area.least.z area.length → IsCover area (box ∷ []) (record { x = x; z = z })
cover area box x z is_x high is_z = record {
  inside = cover_inside area box x z is_x is_z;
  exact = λ chunk. or_none (is_chunk_of_box area chunk box) ∙ same_tests (is_chunk_of_box area chunk box) (covers (columns area.least.x area.width) (record { x = x; z = z }) chunk)
      (λ h. block_covered area box x z is_x is_z chunk (block_of_chunk area box chunk h))
      (λ h. chunk_of_block area box chunk (covered_block area box x z is_x is_z high chunk h));
}

-- a box without a block of the world's has no chunk
apart : (area box : Area) → volume (common_box box area) ≡ 0 → IsApart area (box ∷ [])
apart area box none chunk =
    or_none (is_chunk_of_box area chunk box)
    ∙ ap (λ (n : ℕ). list_any (λ index. eqb (chunk_of area (position_of (common_box box area) index)) chunk) (range_with_len 0 n)) none

pub apart_x : (area box : Area) → common_count box.least.x box.width area.least.x area.width ≡ 0 → IsApart area (box ∷ [])
apart_x area box none = apart area box (ap (λ (n : ℕ). n * (common_box box area).height * (common_box box area).length) none ∙ omega arith)

pub apart_y : (area box : Area) → common_count box.least.y box.height area.least.y area.height ≡ 0 → IsApart area (box ∷ [])
apart_y area box none = apart area box (ap (λ (n : ℕ). (common_box box area).width * n * (common_box box area).length) none ∙ omega arith)

pub apart_z : (area box : Area) → common_count box.least.z box.length area.least.z area.length ≡ 0 → IsApart area (box ∷ [])
apart_z area box none = apart area box (ap (λ (n : ℕ). (common_box box area).width * (common_box box area).height * n) none ∙ omega arith)
