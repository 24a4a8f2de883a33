-- Searching runs: by the places of their first cells in the list, and by those in the box.
use Rattle.std.proofs.Common.{◌≡◌, ℕ, zero, suc, ◌+◌, ◌-◌, ◌<◌, ◌≤◌, Bool, true, inl, inr, cond, List, [], ◌∷◌, ◌++◌, map, length, Option, Some, None, slice_get, get_or, option_map, MatchOption, refl, sym, ap, ◌∙◌, subst, arith}
use Rattle.std.specs.List.Sorted.{IsNonDecreasingBy}
use Rattle.std.proofs.lemmas.Bool.{cases_lt}
use Rattle.std.proofs.lemmas.List.{length-map, map-append}
use Rattle.std.proofs.lemmas.Option.{slice_get-map, slice_get-get_or, slice_get_within}
use Rattle.edit_terms.specs.declared.pos.Pos.{Pos}
use Rattle.edit_terms.specs.Area.{Area, holds, index_of, position_of, volume, is_world_box, IsBlockAt}
use Rattle.edit_terms.proofs.AreaLemmas.{limits, position_at_index}
use Rattle.change_set.specs.declared.proposed.Proposed.{Proposed}
use Rattle.change_set.specs.ContentRun.{ContentRun, looked_up, all_looked_up, as_run}
use Rattle.change_set.specs.declared.run.Run.{Run}
use Rattle.edit_terms.specs.Chunk.{chunk_box, place_in_chunk}
use Rattle.edit_terms.specs.World.{BlockContent}
use Rattle.change_set.specs.Changes.{positions, rises_from, rises, run_changes, changes_of}
use Rattle.change_set.specs.Runs.{AreRunsFrom, cell_of_run}
use Rattle.change_set.specs.Cells.{place_or_end, StartsBehind, IsLastFrom}
use Rattle.edit_terms.proofs.ChunkLemmas.{part_held}
use Rattle.change_set.proofs.ListLemmas.{rising_first, rises_length, cells, block_of_part}
use Rattle.change_set.proofs.ReadLemmas.{IsPlaced, placed}
use Rattle.change_set.proofs.SeenLemmas.{IsLimit, seen_by, read_by, starts_by}

-- the places of rising positions
rises_above : (a : Area) (least : ℕ) (ps : List Pos) (j : ℕ) (q : Pos) → rises_from a least ps ≡ true → slice_get ps j ≡ Some q → least ≤ index_of a q
rises_above a least [] j q h there = absurd cc
rises_above a least (p ∷ ps) zero q h there =
    let same : p ≡ q = cc in
    let f = rising_first a least p ps h in
    subst (λ (r : Pos). least ≤ index_of a r) same f.from
rises_above a least (p ∷ ps) (suc j) q h there =
    let f = rising_first a least p ps h in
    let rest = rises_above a (index_of a p + 1) ps j q f.rest there in
    omega (arith, rest, f.from)

pub held_there : (a : Area) (least : ℕ) (ps : List Pos) (j : ℕ) (q : Pos) → rises_from a least ps ≡ true → slice_get ps j ≡ Some q → holds a q ≡ true
held_there a least [] j q h there = absurd cc
held_there a least (p ∷ ps) zero q h there =
    let same : p ≡ q = cc in
    let f = rising_first a least p ps h in
    subst (λ (r : Pos). holds a r ≡ true) same f.held
held_there a least (p ∷ ps) (suc j) q h there =
    let f = rising_first a least p ps h in
    held_there a (index_of a p + 1) ps j q f.rest there

rises_strictly : (a : Area) (least : ℕ) (ps : List Pos) (i j : ℕ) (p q : Pos) → rises_from a least ps ≡ true → slice_get ps i ≡ Some p → slice_get ps j ≡ Some q → i < j → index_of a p < index_of a q
rises_strictly a least [] i j p q h at_i at_j less = absurd cc
rises_strictly a least (r ∷ ps) zero zero p q h at_i at_j less = absurd (omega (arith, less))
rises_strictly a least (r ∷ ps) zero (suc j) p q h at_i at_j less =
    let same : r ≡ p = cc in
    let f = rising_first a least r ps h in
    let rest : index_of a r + 1 ≤ index_of a q = rises_above a (index_of a r + 1) ps j q f.rest at_j in
    subst (λ (s : Pos). index_of a s < index_of a q) same (omega (arith, rest))
rises_strictly a least (r ∷ ps) (suc i) zero p q h at_i at_j less = absurd (omega (arith, less))
rises_strictly a least (r ∷ ps) (suc i) (suc j) p q h at_i at_j less =
    let f = rising_first a least r ps h in
    rises_strictly a (index_of a r + 1) ps i j p q f.rest at_i at_j (omega (arith, less))

rises_weakly : (a : Area) (least : ℕ) (ps : List Pos) (i j : ℕ) (p q : Pos) → rises_from a least ps ≡ true → slice_get ps i ≡ Some p → slice_get ps j ≡ Some q → i ≤ j → index_of a p ≤ index_of a q
rises_weakly a least ps i j p q h at_i at_j order = elim (cases_lt i j) as (λ _. index_of a p ≤ index_of a q) [
  | inl less ↦ (let strict = rises_strictly a least ps i j p q h at_i at_j less in omega (arith, strict))
  | inr other ↦ (let even : i ≡ j = omega (arith, order, other) in
      let one : Some p ≡ Some q = sym at_i ∙ ap (slice_get ps) even ∙ at_j in
      let same : p ≡ q = cc in
      subst (λ (r : Pos). index_of a p ≤ index_of a r) same (omega arith))
]

-- the first cell of a run stands in the list where the run starts
pub first_there : (a : Area) (runs : List ContentRun) (k : ℕ) (run : ContentRun) → AreRunsFrom a 0 runs → slice_get runs k ≡ Some run → slice_get (positions (changes_of a runs)) run.start ≡ Some run.first
first_there a runs k run each there =
    let p = placed a 0 runs k run each there in
    let part = chunk_box a run.first in
    let start : p.before + 0 ≡ run.start = omega (arith, p.start_is) in
    let here : slice_get (changes_of a runs) run.start ≡ Some (cell_of_run a run 0) = subst (λ (n : ℕ). slice_get (changes_of a runs) n ≡ Some (cell_of_run a run 0)) start (p.each 0 p.is.some) in
    let none_further : place_in_chunk a run.first + 0 ≡ place_in_chunk a run.first = omega arith in
    slice_get-map (λ (d : Proposed). d.at) (changes_of a runs) run.start
    ∙ ap (option_map (λ (d : Proposed). d.at)) here
    ∙ ap (λ (n : ℕ). let q : Option Pos = Some (position_of part n) in q) none_further
    ∙ ap (λ (q : Pos). Some q) (position_at_index part run.first (part_held a run.first p.is.held))

-- the place of a position of the box
held_place : (a : Area) (p : Pos) → holds a p ≡ true → place_or_end a p ≡ index_of a p
held_place a p held = ap (λ (t : Bool). cond t (index_of a p) (volume a)) held

-- the first cells of runs rise
pub firsts_sorted : (a : Area) (runs : List Run) → AreRunsFrom a 0 (map as_run runs) → rises a (positions (changes_of a (map as_run runs))) ≡ true → IsNonDecreasingBy (λ (run : Run). place_or_end a run.first) runs
firsts_sorted a runs each rising = λ i j d order below.
    let one = get_or runs i d in
    let two = get_or runs j d in
    let at_one = read_by as_run runs i one (slice_get-get_or runs i d (omega (arith, order, below))) in
    let at_two = read_by as_run runs j two (slice_get-get_or runs j d below) in
    let held_one = (placed a 0 (map as_run runs) i (as_run one) each at_one).is.held in
    let held_two = (placed a 0 (map as_run runs) j (as_run two) each at_two).is.held in
    let starts : one.start ≤ two.start = starts_by as_run (λ (run : Run). run.start) (λ run. refl) a runs each i j d order below in
    let firsts : index_of a one.first ≤ index_of a two.first = rises_weakly a 0 (positions (changes_of a (map as_run runs))) one.start two.start one.first two.first rising
    (first_there a (map as_run runs) i (as_run one) each at_one) (first_there a (map as_run runs) j (as_run two) each at_two) starts in
    subst (λ (m : ℕ). m ≤ place_or_end a two.first) (sym (held_place a one.first held_one))
    (subst (λ (m : ℕ). index_of a one.first ≤ m) (sym (held_place a two.first held_two)) firsts)

-- the limit tells the last run that doesn't start behind a place
pub behind_limit : (a : Area) (runs : List Run) (place k : ℕ) → AreRunsFrom a 0 (map as_run runs) → IsLimit (λ (run : Run). place_or_end a run.first) runs place k → StartsBehind a runs k place
behind_limit a runs place k each limit = λ run there.
    let held = (placed a 0 (map as_run runs) k (as_run run) each (read_by as_run runs k run there)).is.held in
    subst (λ (m : ℕ). place < m) (held_place a run.first held) (limit.above k run (omega arith) there)

pub last_within : (a : Area) (runs : List Run) (place k : ℕ) (run : Run) → AreRunsFrom a 0 (map as_run runs) → IsLimit (λ (r : Run). place_or_end a r.first) runs place (k + 1)
    → slice_get runs k ≡ Some run → IsLastFrom a runs place run
last_within a runs place k run each limit there =
    let held = (placed a 0 (map as_run runs) k (as_run run) each (read_by as_run runs k run there)).is.held in
    record {
      number = k;
      is = there;
      from = subst (λ (m : ℕ). m ≤ place) (held_place a run.first held) (limit.within k run (omega arith) there);
      next = behind_limit a runs place (k + 1) each limit;
    }

-- where all runs start behind a position, no cell has it
pub none_before : (a : Area) (runs : List Run) (p : Pos) (i : ℕ) → AreRunsFrom a 0 (map as_run runs) → rises a (positions (changes_of a (map as_run runs))) ≡ true
    → StartsBehind a runs 0 (index_of a p) → slice_get (positions (changes_of a (map as_run runs))) i ≡ Some p → ⊥
none_before a [] p i each rising behind there = cc
none_before a (run ∷ runs) p i each rising behind there =
    let first = each.0.start_is in
    let order : run.start ≤ i = omega (arith, first) in
    let low : index_of a run.first ≤ index_of a p = rises_weakly a 0 (positions (changes_of a (map as_run (run ∷ runs)))) run.start i run.first p rising (first_there a (map as_run (run ∷ runs)) 0 (as_run run) each refl) there order in
    let high : index_of a p < index_of a run.first = behind run refl in
    omega (arith, low, high)

-- a position of a stretch is one of its cells
pub cell_there : (a : Area) (first p : Pos) (length j : ℕ) → is_world_box a ≡ true → holds a first ≡ true → place_in_chunk a first + length ≤ volume (chunk_box a first) → j < length
    → position_of (chunk_box a first) (place_in_chunk a first + j) ≡ p → IsBlockAt (chunk_box a first) (place_in_chunk a first + j) p
cell_there a first p length j box held fits below is =
    subst (λ (q : Pos). IsBlockAt (chunk_box a first) (place_in_chunk a first + j) q) is (block_of_part a first (place_in_chunk a first + j) box held (omega (arith, fits, below)))

-- the position of a change of a run
run_cell : (a : Area) (list : List Proposed) (run : ContentRun) (i j : ℕ) → slice_get list i ≡ Some (cell_of_run a run j) → slice_get (positions list) i ≡ Some (position_of (chunk_box a run.first) (place_in_chunk a run.first + j))
run_cell a list run i j here = slice_get-map (λ (d : Proposed). d.at) list i ∙ ap (option_map (λ (d : Proposed). d.at)) here

pub found_there : (a : Area) (runs : List Run) (k : ℕ) (run : Run) (j : ℕ) (p : Pos) → AreRunsFrom a 0 (map as_run runs) → slice_get runs k ≡ Some run → j < run.length
    → position_of (chunk_box a run.first) (place_in_chunk a run.first + j) ≡ p → slice_get (positions (changes_of a (map as_run runs))) (run.start + j) ≡ Some p
found_there a runs k run j p each there below is =
    let at = placed a 0 (map as_run runs) k (as_run run) each (read_by as_run runs k run there) in
    let place : at.before + j ≡ run.start + j = omega (arith, at.start_is) in
    let here = subst (λ (n : ℕ). slice_get (changes_of a (map as_run runs)) n ≡ Some (cell_of_run a (as_run run) j)) place (at.each j below) in
    run_cell a (changes_of a (map as_run runs)) (as_run run) (run.start + j) j here ∙ ap (λ (q : Pos). Some q) is

-- a place in the list of rising cells is a small number
pub place_is_small : (a : Area) (runs : List Run) (k : ℕ) (run : Run) (j : ℕ) → is_world_box a ≡ true → AreRunsFrom a 0 (map as_run runs) → rises a (positions (changes_of a (map as_run runs))) ≡ true
    → slice_get runs k ≡ Some run → j < run.length → run.start + j < 33554432
place_is_small a runs k run j box each rising there below =
    let list = changes_of a (map as_run runs) in
    let at = placed a 0 (map as_run runs) k (as_run run) each (read_by as_run runs k run there) in
    let room = rises_length a 0 (positions list) (omega arith) rising in
    let as_many : length (positions list) ≡ length list = length-map list (λ (d : Proposed). d.at) in
    let small_box = (limits a box).small in
    omega (arith, at.start_is, at.within, room, as_many, small_box, below)

-- no cell has a position that the last run which doesn't start behind it doesn't have
pub none_there : (a : Area) (runs : List Run) (p : Pos) (run : Run) (i : ℕ) → AreRunsFrom a 0 (map as_run runs) → rises a (positions (changes_of a (map as_run runs))) ≡ true
    → IsLastFrom a runs (index_of a p) run → ((j : ℕ) → j < run.length → position_of (chunk_box a run.first) (place_in_chunk a run.first + j) ≡ p → ⊥)
    → slice_get (positions (changes_of a (map as_run runs))) i ≡ Some p → ⊥
none_there a runs p run i each rising last not_in there = elim (cases_lt i run.start) as (λ _. ⊥) [
  | inl before ↦ (let less : index_of a p < index_of a run.first = rises_strictly a 0 ps i run.start p run.first rising there (first_there a seen last.number (as_run run) each number) before in omega (arith, less, last.from))
  | inr from ↦ elim (cases_lt i (run.start + run.length)) as (λ _. ⊥) [
    | inl inside ↦ in_run from inside
    | inr behind ↦ by (slice_get seen (last.number + 1)) refl behind
  ]
]
  where
    seen : List ContentRun
    seen = map as_run runs

    list : List Proposed
    list = changes_of a (map as_run runs)

    ps : List Pos
    ps = positions (changes_of a (map as_run runs))

    number : slice_get (map as_run runs) last.number ≡ Some (as_run run)
    number = read_by as_run runs last.number run last.is

    at : IsPlaced a 0 (map as_run runs) last.number (as_run run)
    at = placed a 0 (map as_run runs) last.number (as_run run) each number

    in_run : run.start ≤ i → i < run.start + run.length → ⊥
    in_run from inside =
        let below : i - run.start < run.length = omega (arith, from, inside) in
        let place : at.before + (i - run.start) ≡ i = omega (arith, at.start_is, from) in
        let here = subst (λ (n : ℕ). slice_get list n ≡ Some (cell_of_run a (as_run run) (i - run.start))) place (at.each (i - run.start) below) in
        let two : Some (position_of (chunk_box a run.first) (place_in_chunk a run.first + (i - run.start))) ≡ Some p = sym (run_cell a list (as_run run) i (i - run.start) here) ∙ there in
        not_in (i - run.start) below cc

    by : (o : Option ContentRun) → slice_get seen (last.number + 1) ≡ o → run.start + run.length ≤ i → ⊥
    by None e behind =
        let whole : MatchOption None (at.before + run.length ≡ length list) (λ (after : ContentRun). after.start ≡ run.start + run.length) = subst (λ (o : Option ContentRun). MatchOption o (at.before + run.length ≡ length list) (λ (after : ContentRun). after.start ≡ run.start + run.length)) e at.next in
        let end : at.before + run.length ≡ length list = whole in
        let within = slice_get_within ps i p there in
        let as_many : length ps ≡ length list = length-map list (λ (d : Proposed). d.at) in
        omega (arith, end, within, as_many, at.start_is, behind)
    by (Some after) e behind =
        let next : MatchOption (Some after) (at.before + run.length ≡ length list) (λ (r : ContentRun). r.start ≡ run.start + run.length) = subst (λ (o : Option ContentRun). MatchOption o (at.before + run.length ≡ length list) (λ (r : ContentRun). r.start ≡ run.start + run.length)) e at.next in
        let start : after.start ≡ run.start + run.length = next in
        let order : after.start ≤ i = omega (arith, start, behind) in
        let cell = seen_by as_run runs (last.number + 1) after e in
        let high : index_of a p < index_of a cell.run.first = last.next cell.run cell.is in
        let higher : index_of a p < index_of a after.first = subst (λ (r : ContentRun). index_of a p < index_of a r.first) cell.same high in
        let low : index_of a after.first ≤ index_of a p = rises_weakly a 0 ps after.start i after.first p rising (first_there a seen (last.number + 1) after each e) there order in
        omega (arith, higher, low)

-- the positions of runs don't depend on their contents
positions-cells : (part : Area) (b c d e : BlockContent) (place n : ℕ) → positions (cells part b c place n) ≡ positions (cells part d e place n)
positions-cells part b c d e place zero = refl
positions-cells part b c d e place (suc n) = ap (λ (ps : List Pos). position_of part place ∷ ps) (positions-cells part b c d e (place + 1) n)

pub bare_positions : (a : Area) (contents : List BlockContent) (runs : List Run) → positions (changes_of a (all_looked_up contents runs)) ≡ positions (changes_of a (map as_run runs))
bare_positions a contents [] = refl
bare_positions a contents (run ∷ runs) =
    let seen = looked_up contents run in
    let bare = as_run run in
    let here = positions-cells (chunk_box a run.first) seen.before seen.after bare.before bare.after (place_in_chunk a run.first) run.length in
    let rest = bare_positions a contents runs in
    map-append (λ (d : Proposed). d.at) (run_changes a seen) (changes_of a (all_looked_up contents runs))
    ∙ (λ i. here i ++ rest i)
    ∙ sym (map-append (λ (d : Proposed). d.at) (run_changes a bare) (changes_of a (map as_run runs)))

-- nor does where they stand
pub bare_runs : (a : Area) (contents : List BlockContent) (start : ℕ) (runs : List Run) → AreRunsFrom a start (all_looked_up contents runs) → AreRunsFrom a start (map as_run runs)
bare_runs a contents start [] each = tt
bare_runs a contents start (run ∷ runs) each =
    let is = each.0 in
    (record { start_is = is.start_is; some = is.some; held = is.held; fits = is.fits }, bare_runs a contents (start + run.length) runs each.1)
