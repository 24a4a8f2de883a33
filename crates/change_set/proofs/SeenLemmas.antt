-- Runs that are seen as runs with contents: by numbers that are looked up, or as cells at which the content stays.
use Rattle.std.proofs.Common.{◌≡◌, ℕ, zero, suc, ◌+◌, ◌-◌, ◌<◌, ◌≤◌, List, [], ◌∷◌, map, length, Some, slice_get, option_map, refl, sym, ap, ◌∙◌, subst, arith, true, false, get_or}
use Rattle.std.specs.List.Sorted.{IsNonDecreasingBy, IsPartitionPoint}
use Rattle.std.proofs.Math.Dec.{leb}
use Rattle.std.proofs.lemmas.Bool.{leb-true, leb-false}
use Rattle.std.proofs.Math.ListN.{get_or-map}
use Rattle.std.proofs.lemmas.List.{length-map}
use Rattle.std.proofs.lemmas.Option.{slice_get-map, slice_get_within, slice_get-get_or, get_or_from_slice_get}
use Rattle.edit_terms.specs.Area.{Area, is_world_box}
use Rattle.change_set.specs.ContentRun.{ContentRun}
use Rattle.change_set.specs.Changes.{changes_of}
use Rattle.change_set.specs.Runs.{AreRunsFrom, IsRunAt}
use Rattle.change_set.proofs.ReadLemmas.{run_at, starts_sorted}
use Rattle.change_set.proofs.RunLemmas.{IsLast, last_run}

-- below a number keys are within a limit, and from it on they are above
pub record IsLimit {X : Type 0} (n : X → ℕ) (xs : List X) (limit k : ℕ) : Type 0 where
  pub within : (j : ℕ) (x : X) → j < k → slice_get xs j ≡ Some x → n x ≤ limit
  pub above : (j : ℕ) (x : X) → k ≤ j → slice_get xs j ≡ Some x → limit < n x

pub limit_of : {X : Type 0} (n : X → ℕ) (xs : List X) (limit k : ℕ) → IsPartitionPoint (λ (x : X). leb (n x) limit ≡ true) (λ (x : X). leb (n x) limit ≡ false) xs k → IsLimit n xs limit k
limit_of {X} n xs limit k point = record {
  within = λ j x below there.
      let passed = point.0 j x (omega arith) below in
      let read : get_or xs j x ≡ x = get_or_from_slice_get xs j x x there in
      leb-true (n x) limit (subst (λ (y : X). leb (n y) limit ≡ true) read passed);
  above = λ j x from there.
      let failed = point.1 j x from (slice_get_within xs j x there) in
      let read : get_or xs j x ≡ x = get_or_from_slice_get xs j x x there in
      leb-false (n x) limit (subst (λ (y : X). leb (n y) limit ≡ false) read failed);
}

-- the first of runs starts at the first change
pub some_start : (a : Area) (runs : List ContentRun) (i k : ℕ) → AreRunsFrom a 0 runs → i < length (changes_of a runs) → IsLimit (λ (run : ContentRun). run.start) runs i k → 1 ≤ k
some_start a [] i k each within limit = absurd (omega (arith, within))
some_start a (run ∷ runs) i zero each within limit =
    let behind : i < run.start = limit.above 0 run (omega arith) refl in
    let first = each.0.start_is in
    absurd (omega (arith, behind, first))
some_start a (run ∷ runs) i (suc k) each within limit = omega arith

-- the run before the limit has the change
pub run_before : (a : Area) (runs : List ContentRun) (i k : ℕ) (run : ContentRun) → AreRunsFrom a 0 runs → i < length (changes_of a runs) → IsLimit (λ (r : ContentRun). r.start) runs i (k + 1) → slice_get runs k ≡ Some run
    → IsRunAt a (changes_of a runs) i run
run_before a runs i k run each within limit there =
    run_at a runs k run i each there within (limit.within k run (omega arith) there) (λ after next. limit.above (k + 1) after (omega arith) next)

-- one of the runs, from what is seen at its place
pub record IsSeenBy {X : Type 0} (view : X → ContentRun) (runs : List X) (k : ℕ) (seen : ContentRun) : Type 0 where
  pub run : X
  pub is : slice_get runs k ≡ Some run
  pub same : view run ≡ seen

pub seen_by : {X : Type 0} (view : X → ContentRun) (runs : List X) (k : ℕ) (seen : ContentRun) → slice_get (map view runs) k ≡ Some seen → IsSeenBy view runs k seen
seen_by view [] k seen there = absurd cc
seen_by view (run ∷ runs) zero seen there = record { run = run; is = refl; same = cc }
seen_by view (run ∷ runs) (suc k) seen there = let rest = seen_by view runs k seen there in record { run = rest.run; is = rest.is; same = rest.same }

-- and the other way round
pub read_by : {X : Type 0} (view : X → ContentRun) (runs : List X) (k : ℕ) (run : X) → slice_get runs k ≡ Some run → slice_get (map view runs) k ≡ Some (view run)
read_by view runs k run there = slice_get-map view runs k ∙ ap (option_map view) there

-- the starts of runs rise
pub starts_by : {X : Type 0} (view : X → ContentRun) (start : X → ℕ) (alike : (x : X) → (view x).start ≡ start x) (a : Area) (runs : List X) → AreRunsFrom a 0 (map view runs) → IsNonDecreasingBy start runs
starts_by view start alike a runs each = λ i j d order below.
    let starts = starts_sorted a (map view runs) each i j (view d) order (omega (arith, below, length-map runs view)) in
    let one = ap (λ (run : ContentRun). run.start) (get_or-map view runs i d) ∙ alike _ in
    let two = ap (λ (run : ContentRun). run.start) (get_or-map view runs j d) ∙ alike _ in
    omega (arith, starts, one, two)

-- and have the same limits
pub limit_by : {X : Type 0} (view : X → ContentRun) (start : X → ℕ) (alike : (x : X) → (view x).start ≡ start x) (runs : List X) (i k : ℕ) → IsLimit start runs i k
    → IsLimit (λ (run : ContentRun). run.start) (map view runs) i k
limit_by view start alike runs i k limit = record {
  within = λ j x below there.
      let seen = seen_by view runs j x there in
      let le = limit.within j seen.run below seen.is in
      let e = alike seen.run in
      subst (λ (run : ContentRun). run.start ≤ i) seen.same (omega (arith, le, e));
  above = λ j x from there.
      let seen = seen_by view runs j x there in
      let lt = limit.above j seen.run from seen.is in
      let e = alike seen.run in
      subst (λ (run : ContentRun). i < run.start) seen.same (omega (arith, lt, e));
}

-- what is known of a run that is read as the last one
pub last_by : {X : Type 0} (view : X → ContentRun) (a : Area) (runs : List X) (run : X) → is_world_box a ≡ true → AreRunsFrom a 0 (map view runs) → Some run ≡ slice_get runs (length runs - 1) → IsLast a (map view runs) (view run)
last_by view a runs run box each there =
    let within : length runs - 1 < length runs = slice_get_within runs (length runs - 1) run (sym there) in
    last_run a 0 (map view runs) (length runs - 1) (view run) box each (omega (arith, within, length-map runs view)) (slice_get-map view runs (length runs - 1) ∙ ap (option_map view) (sym there))

-- The run before a limit, where that is the limit of a place of the list: there is one, and it has the place.
pub record IsFoundBy {X : Type 0} (view : X → ContentRun) (a : Area) (runs : List X) (i limit : ℕ) (d : X) : Type 0 where
  pub some : 1 ≤ limit
  pub there : slice_get runs (limit - 1) ≡ Some (get_or runs (limit - 1) d)
  pub is : IsRunAt a (changes_of a (map view runs)) i (view (get_or runs (limit - 1) d))

pub found_by : {X : Type 0} (view : X → ContentRun) (start : X → ℕ) (alike : (x : X) → (view x).start ≡ start x) (a : Area) (runs : List X) (i limit : ℕ) (d : X) → AreRunsFrom a 0 (map view runs)
    → i < length (changes_of a (map view runs)) → IsLimit start runs i limit → limit ≤ length runs → IsFoundBy view a runs i limit d
found_by view start alike a runs i limit d each within is bound =
    let seen = limit_by view start alike runs i limit is in
    let some : 1 ≤ limit = some_start a (map view runs) i limit each within seen in
    let more : limit ≡ limit - 1 + 1 = omega (arith, some) in
    let below : limit - 1 < length runs = omega (arith, some, bound) in
    let there = slice_get-get_or runs (limit - 1) d below in
    record {
      some = some;
      there = there;
      is = run_before a (map view runs) i (limit - 1) (view (get_or runs (limit - 1) d)) each within
          (subst (λ (n : ℕ). IsLimit (λ (run : ContentRun). run.start) (map view runs) i n) more seen) (read_by view runs (limit - 1) (get_or runs (limit - 1) d) there);
    }
