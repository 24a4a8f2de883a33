-- The spans of a row in a box have the positions of the row that belong to the region, and are as long as can be.
--
-- Along a row of a box, positions are counted from the box's least corner. An interval of the row is then a run of these
-- numbers, and what a region leaves of the row is two runs.
use Rattle.std.proofs.Common.{◌≡◌, ℕ, zero, suc, ◌+◌, ◌<◌, ◌≤◌, Bool, true, false, cond, ◌&&◌, ◌||◌, List, [], ◌∷◌, ◌++◌, ℤ, pos, ◌+ℤ◌, ◌-ℤ◌, ◌≤ℤ◌, refl, sym, ◌∙◌, ap, arith}
use Rattle.std.specs.Prelude.{map, nat_abs, int_le, int_lt, not}
use Rattle.std.specs.List.{range_with_len, filter}
use Rattle.std.proofs.lemmas.Bool.Decides.{nat_tests}
use Rattle.std.proofs.lemmas.Int.{ints}
use Rattle.std.proofs.lemmas.List.{append-nil}
use Rattle.std.proofs.lemmas.Grind.{flat_map-append}
use Rattle.edit_terms.specs.declared.pos.Pos.{Pos}
use Rattle.edit_terms.specs.declared.region.Region.{Region}
use Rattle.edit_terms.specs.Area.{Area}
use Rattle.edit_terms.specs.Region.{is_inside}
use Rattle.region_shapes.specs.declared.interval.Interval.{Interval}
use Rattle.region_shapes.specs.declared.span.Span.{Span}
use Rattle.region_shapes.specs.Interval.{is_among, is_empty, size, common, below, above}
use Rattle.region_shapes.specs.Extents.{extent_of}
use Rattle.region_shapes.specs.Rows.{whole_row, core_row, IsBounded}
use Rattle.region_shapes.specs.Spans.{along, positions_of, all_positions}
use Rattle.region_shapes.specs.SpansLeft.{span_of, spans_outside, row_spans}
use Rattle.region_shapes.proofs.RunLemmas.{is_in_run, two_runs}
use Rattle.region_shapes.proofs.RowLemmas.{rows_inside, among_common}

-- a row of a box, from its least coordinate x on
abbrev pub corner : ℤ → ℤ → ℤ → Pos
corner x y z = record { x = x; y = y; z = z }

-- two lists made alike of consecutive numbers
shifted : {X : Type 0} (g h : ℕ → X) (s a b n : ℕ) → b ≡ s + a → ((i : ℕ) → g i ≡ h (s + i)) → map g (range_with_len a n) ≡ map h (range_with_len b n)
shifted g h s a b zero e same = refl
shifted g h s a b (suc n) e same =
    let first : g a ≡ h b = same a ∙ ap h (sym e) in
    rw first (ap (λ xs. h b ∷ xs) (shifted g h s (a + 1) (b + 1) n (omega (arith, e)) same))

along_from : (x low y z : ℤ) (s i : ℕ) → low ≡ x +ℤ pos s → along (corner low y z) i ≡ along (corner x y z) (s + i)
along_from x low y z s i e =
    let same : low +ℤ pos i ≡ x +ℤ pos (s + i) = omega (arith, ints, e) in
    ap (λ (v : ℤ). corner v y z) same

-- An interval within so many numbers from one on is a run of them.
pub record IsRun (x : ℤ) (w : ℕ) (i : Interval) (s n : ℕ) : Type 0 where
  pub room : s + n ≤ w
  pub tests : (k : ℕ) → k < w → is_among i (x +ℤ pos k) ≡ is_in_run s n k
  pub positions : (y z : ℤ) → all_positions (span_of y z i) ≡ map (along (corner x y z)) (range_with_len s n)

empty_size : (i : Interval) → is_empty i ≡ true → size i ≡ 0
empty_size i h = grind (arith, ints)

empty_among : (i : Interval) (v : ℤ) → is_empty i ≡ true → is_among i v ≡ false
empty_among i v h = grind (arith, ints)

empty_run : (s k : ℕ) → is_in_run s 0 k ≡ false
empty_run s k = grind (arith, nat_tests)

-- where an empty interval stands doesn't matter
run_of_empty : (x : ℤ) (w s : ℕ) (i : Interval) → s ≤ w → is_empty i ≡ true → IsRun x w i s (size i)
run_of_empty x w s i h none =
    rw (empty_size i none) (record {
      room = omega (arith, h);
      tests = λ k below. empty_among i (x +ℤ pos k) none ∙ sym (empty_run s k);
      positions = λ y z. rw none refl;
    })

start_is : (x low : ℤ) → x ≤ℤ low → low ≡ x +ℤ pos (nat_abs (low -ℤ x))
start_is x low h = grind (arith, ints)

run_room : (x : ℤ) (w : ℕ) (i : Interval) → x ≤ℤ i.from → i.to ≤ℤ (x +ℤ pos w) → is_empty i ≡ false → nat_abs (i.from -ℤ x) + size i ≤ w
run_room x w i low high some = grind (arith, ints)

run_tests : (x : ℤ) (k : ℕ) (i : Interval) → x ≤ℤ i.from → is_empty i ≡ false → is_among i (x +ℤ pos k) ≡ is_in_run (nat_abs (i.from -ℤ x)) (size i) k
run_tests x k i low some = grind (arith, ints, nat_tests)

run_of_some : (x : ℤ) (w : ℕ) (i : Interval) → x ≤ℤ i.from → i.to ≤ℤ (x +ℤ pos w) → is_empty i ≡ false → IsRun x w i (nat_abs (i.from -ℤ x)) (size i)
run_of_some x w i low high some = record {
  room = run_room x w i low high some;
  tests = λ k below. run_tests x k i low some;
  positions = λ y z. rw some (append-nil (positions_of (record { least = corner i.from y z; count = size i }))
      ∙ shifted (along (corner i.from y z)) (along (corner x y z)) (nat_abs (i.from -ℤ x)) 0 (nat_abs (i.from -ℤ x)) (size i) (omega arith) (λ k. along_from x i.from y z (nat_abs (i.from -ℤ x)) k (start_is x i.from low)));
}

-- the run of an interval; of an empty one at this number
run_within : (x : ℤ) (w d : ℕ) (i : Interval) (b : Bool) → d ≤ w → x ≤ℤ i.from → i.to ≤ℤ (x +ℤ pos w) → is_empty i ≡ b → IsRun x w i (cond b d (nat_abs (i.from -ℤ x))) (size i)
run_within x w d i true h low high is = run_of_empty x w d i h is
run_within x w d i false h low high is = run_of_some x w i low high is

-- a run and no second one
run_alone : (s n w k : ℕ) → (is_in_run s n k || is_in_run w 0 k) ≡ is_in_run s n k
run_alone s n w k = rw (empty_run w k) (grind arith)

-- what a test that holds in one interval keeps of a row
kept_interval : (p : Pos → Bool) (x y z : ℤ) (w s n : ℕ) (i : Interval) → IsRun x w i s n
    → ((k : ℕ) → k < w → p (along (corner x y z) k) ≡ is_among i (x +ℤ pos k))
    → filter p (map (along (corner x y z)) (range_with_len 0 w)) ≡ all_positions (span_of y z i)
kept_interval p x y z w s n i run h =
    two_runs (along (corner x y z)) p w s n w 0 run.room (omega arith) (λ k below. h k below ∙ run.tests k below ∙ sym (run_alone s n w k))
    ∙ append-nil (map (along (corner x y z)) (range_with_len s n))
    ∙ sym (run.positions y z)

pub all_positions-append : (xs ys : List Span) → all_positions (xs ++ ys) ≡ all_positions xs ++ all_positions ys
all_positions-append xs ys = flat_map-append positions_of xs ys

-- and what one keeps that holds in two, the one behind the other
kept_two : (p : Pos → Bool) (x y z : ℤ) (w s n t m : ℕ) (i j : Interval) → IsRun x w i s n → IsRun x w j t m → s + n ≤ t
    → ((k : ℕ) → k < w → p (along (corner x y z) k) ≡ (is_among i (x +ℤ pos k) || is_among j (x +ℤ pos k)))
    → filter p (map (along (corner x y z)) (range_with_len 0 w)) ≡ all_positions (span_of y z i ++ span_of y z j)
kept_two p x y z w s n t m i j run other order h =
    two_runs (along (corner x y z)) p w s n t m order other.room (λ k below. h k below ∙ ap (λ b. b || is_among j (x +ℤ pos k)) (run.tests k below) ∙ ap (λ b. is_in_run s n k || b) (other.tests k below))
    ∙ rw (all_positions-append (span_of y z i) (span_of y z j), run.positions y z, other.positions y z) refl

-- the first of two intervals ends before the second begins, wherever an empty one is put
in_order : (x : ℤ) (w : ℕ) (i j : Interval) (b c : Bool) → x ≤ℤ i.from → i.to ≤ℤ (x +ℤ pos w) → x ≤ℤ j.from → i.to ≤ℤ j.from → is_empty i ≡ b → is_empty j ≡ c
    → cond b 0 (nat_abs (i.from -ℤ x)) + size i ≤ cond c w (nat_abs (j.from -ℤ x))
in_order x w i j true c low high jlow order e f = omega (arith, empty_size i e)
in_order x w i j false true low high jlow order e f = run_room x w i low high e
in_order x w i j false false low high jlow order e f = grind (arith, ints)

-- ---- a region's row

among_width : (a : Area) (k : ℕ) → k < a.width → is_among (extent_of a).x (a.least.x +ℤ pos k) ≡ true
among_width a k h = grind (arith, ints)

among_below : (part i : Interval) (v : ℤ) → is_among (below part i) v ≡ (is_among i v && not (int_le part.from v))
among_below part i v = grind (arith, ints)

among_above : (part i : Interval) (v : ℤ) → is_among (above part i) v ≡ (is_among i v && not (int_lt v part.to))
among_above part i v = grind (arith, ints)

and_yes : (b c : Bool) → c ≡ true → (b && c) ≡ b
and_yes b c h = rw h (grind arith)

and_not_no : (b c : Bool) → c ≡ false → (b && not c) ≡ b
and_not_no b c h = rw h (grind arith)

left_out : (b c d : Bool) → (b && not (c && d)) ≡ ((b && not c) || (b && not d))
left_out b c d = grind arith

cut_among : (a : Area) (i : Interval) (k : ℕ) → k < a.width → is_among (common i (extent_of a).x) (a.least.x +ℤ pos k) ≡ is_among i (a.least.x +ℤ pos k)
cut_among a i k h =
    among_common i (extent_of a).x (a.least.x +ℤ pos k)
    ∙ and_yes (is_among i (a.least.x +ℤ pos k)) (is_among (extent_of a).x (a.least.x +ℤ pos k)) (among_width a k h)

outside_among : (a : Area) (part i : Interval) (k : ℕ) → k < a.width
    → (is_among i (a.least.x +ℤ pos k) && not (is_among part (a.least.x +ℤ pos k)))
    ≡ (is_among (below part (common i (extent_of a).x)) (a.least.x +ℤ pos k) || is_among (above part (common i (extent_of a).x)) (a.least.x +ℤ pos k))
outside_among a part i k h =
    let v = a.least.x +ℤ pos k in
    rw (among_below part (common i (extent_of a).x) v, among_above part (common i (extent_of a).x) v, cut_among a i k h)
    (left_out (is_among i v) (int_le part.from v) (int_lt v part.to))

cut_low : (a : Area) (i : Interval) → a.least.x ≤ℤ (common i (extent_of a).x).from
cut_low a i = grind (arith, ints)

cut_high : (a : Area) (i : Interval) → ((common i (extent_of a).x).to) ≤ℤ (a.least.x +ℤ pos a.width)
cut_high a i = grind (arith, ints)

below_high : (x : ℤ) (part i : Interval) → i.to ≤ℤ x → (below part i).to ≤ℤ x
below_high x part i h = grind (arith, ints)

above_low : (x : ℤ) (part i : Interval) → x ≤ℤ i.from → x ≤ℤ (above part i).from
above_low x part i h = grind (arith, ints)

apart : (part i : Interval) → is_empty part ≡ false → (below part i).to ≤ℤ (above part i).from
apart part i h = grind (arith, ints)

-- what a test that holds in an interval without a part keeps of a box's row
kept_outside : (p : Pos → Bool) (a : Area) (y z : ℤ) (part i : Interval) (b : Bool) → is_empty part ≡ b
    → ((k : ℕ) → k < a.width → p (along (corner a.least.x y z) k) ≡ (is_among i (a.least.x +ℤ pos k) && not (is_among part (a.least.x +ℤ pos k))))
    → filter p (map (along (corner a.least.x y z)) (range_with_len 0 a.width)) ≡ all_positions (cond b (span_of y z (common i (extent_of a).x)) (span_of y z (below part (common i (extent_of a).x)) ++ span_of y z (above part (common i (extent_of a).x))))
kept_outside p a y z part i true none h =
    let cut = common i (extent_of a).x in
    kept_interval p a.least.x y z a.width (cond (is_empty cut) 0 (nat_abs (cut.from -ℤ a.least.x))) (size cut) cut
    (run_within a.least.x a.width 0 cut (is_empty cut) (omega arith) (cut_low a i) (cut_high a i) refl)
    (λ k below. h k below ∙ and_not_no (is_among i (a.least.x +ℤ pos k)) (is_among part (a.least.x +ℤ pos k)) (empty_among part (a.least.x +ℤ pos k) none) ∙ sym (cut_among a i k below))
kept_outside p a y z part i false some h =
    let cut = common i (extent_of a).x in
    let x = a.least.x in
    let low = cut_low a i in
    let high = cut_high a i in
    let first = below part cut in
    let second = above part cut in
    kept_two p x y z a.width (cond (is_empty first) 0 (nat_abs (first.from -ℤ x))) (size first) (cond (is_empty second) a.width (nat_abs (second.from -ℤ x))) (size second) first second
    (run_within x a.width 0 first (is_empty first) (omega arith) low (below_high (x +ℤ pos a.width) part cut high) refl)
    (run_within x a.width a.width second (is_empty second) (omega arith) (above_low x part cut low) high refl)
    (in_order x a.width first second (is_empty first) (is_empty second) low (below_high (x +ℤ pos a.width) part cut high) (above_low x part cut low) (apart part cut some) refl refl)
    (λ k below. h k below ∙ outside_among a part i k below)

-- the spans of a region's row have the row's positions that belong to the region
pub row_spans-positions : (region : Region) → IsBounded region → (a : Area) (y z : ℤ)
    → filter (is_inside region) (map (along (corner a.least.x y z)) (range_with_len 0 a.width)) ≡ all_positions (row_spans region a y z)
row_spans-positions region is a y z =
    kept_outside (is_inside region) a y z (core_row region y z) (whole_row region y z) (is_empty (core_row region y z)) refl
    (λ k below. rows_inside region is (along (corner a.least.x y z) k))

empty_span : (y z : ℤ) (i : Interval) → is_empty i ≡ true → span_of y z i ≡ []
empty_span y z i h = rw h refl

empty_below : (part i : Interval) → is_empty i ≡ true → is_empty (below part i) ≡ true
empty_below part i h = grind (arith, ints)

empty_above : (part i : Interval) → is_empty i ≡ true → is_empty (above part i) ≡ true
empty_above part i h = grind (arith, ints)

empty_by_cases : (y z : ℤ) (part i : Interval) (b : Bool) → is_empty i ≡ true → cond b (span_of y z i) (span_of y z (below part i) ++ span_of y z (above part i)) ≡ []
empty_by_cases y z part i true h = empty_span y z i h
empty_by_cases y z part i false h = rw (empty_span y z (below part i) (empty_below part i h), empty_span y z (above part i) (empty_above part i h)) refl

-- an empty interval has no span, whatever is left out
pub empty_outside : (y z : ℤ) (part i : Interval) → is_empty i ≡ true → spans_outside y z part i ≡ []
empty_outside y z part i h = empty_by_cases y z part i (is_empty part) h
