-- Runs that keep changes go on keeping them with a stretch more: in a run of its own, or in a longer last run.
use Rattle.std.proofs.Common.{◌≡◌, ℕ, zero, suc, ◌+◌, ◌<◌, ◌≤◌, Bool, true, false, ◌&&◌, cond, List, [], ◌∷◌, ◌++◌, map, length, Some, slice_get, IfSome, refl, sym, ap, ◌∙◌, subst, arith, eqb, append_assoc}
use Rattle.std.specs.Cmp.Derive.{both_true}
use borrow.Author.Tests.{eqb-true}
use Rattle.std.proofs.lemmas.List.{map-append, append-nil, length-append, length-map}
use Rattle.std.proofs.lemmas.List.Concat.{flat_map-append}
use Rattle.std.proofs.lemmas.List.Folds.{list_all-append}
use Rattle.edit_terms.specs.declared.pos.Pos.{Pos}
use Rattle.edit_terms.specs.Area.{Area, holds, index_of, position_of, volume, is_world_box}
use Rattle.edit_terms.specs.World.{BlockContent}
use Rattle.edit_terms.specs.Same.{same_content, content_decides}
use Rattle.edit_terms.proofs.AreaLemmas.{and_both, limits, position_at_index, held_below}
use Rattle.change_set.specs.declared.proposed.Proposed.{Proposed}
use Rattle.change_set.specs.ContentRun.{ContentRun}
use Rattle.edit_terms.specs.Chunk.{chunk_box, place_in_chunk}
use Rattle.change_set.specs.Changes.{positions, rises_from, rises, is_change, ChangeList, stretch, kept_stretch, kept_change, run_changes, changes_of, breaks_behind, breaks, goes_on_behind}
use Rattle.std.specs.List.{list_all}
use Rattle.change_set.specs.Runs.{IsRun, AreRunsFrom, AreKept, follows, with_last_longer}
use Rattle.edit_terms.proofs.ChunkLemmas.{same_part, part_held, in_part, part_order}
use Rattle.change_set.proofs.ListLemmas.{rising_from_first, rises_lower, rises_join, rises_length, cell, cells, length-cells, cells-append, cells_rise, breaks_behind-cells, goes_on_behind-append, goes_on_behind-cells, breaks-push, cells_change, block_of_part}

-- what holds once a stretch of n changes stands behind the changes that runs keep
pub record IsExtended (a : Area) (runs : List ContentRun) (count : ℕ) (first : Pos) (n : ℕ) (before after : BlockContent) (longer : List ContentRun) : Type 0 where
  pub kept : AreKept a longer (count + n)
  pub list : changes_of a longer ≡ changes_of a runs ++ stretch a first n before after
  pub small : count + n ≤ 33554432

-- where a stretch may stand behind changes
pub record CanExtend (a : Area) (list : List Proposed) (first : Pos) (n : ℕ) : Type 0 where
  pub rising : rises a (positions list ++ first ∷ []) ≡ true
  pub fits : place_in_chunk a first + n ≤ volume (chunk_box a first)
  pub some : 0 < n

-- the position behind rising ones is of the box
held_last : (a : Area) (least : ℕ) (ps : List Pos) (p : Pos) → rises_from a least (ps ++ p ∷ []) ≡ true → holds a p ≡ true
held_last a least [] p h = (and_both (holds a p) _ (and_both (holds a p && _) _ h).0).0
held_last a least (q ∷ ps) p h = held_last a (index_of a q + 1) ps p (and_both (holds a q && _) (rises_from a (index_of a q + 1) (ps ++ p ∷ [])) h).1

-- a stretch has its first cell first
stretch_first : (a : Area) (first : Pos) (n : ℕ) (b c : BlockContent) → holds a first ≡ true
    → stretch a first (suc n) b c ≡ record { at = first; before = b; after = c } ∷ cells (chunk_box a first) b c (place_in_chunk a first + 1) n
stretch_first a first n b c held =
    let e = position_at_index (chunk_box a first) first (part_held a first held) in
    ap (λ (p : Pos). record { at = p; before = b; after = c } ∷ cells (chunk_box a first) b c (place_in_chunk a first + 1) n) e

-- the facts of the list alone: it rises, and it isn't too long
record IsLonger (a : Area) (list longer : List Proposed) (n : ℕ) : Type 0 where
  pub rising : rises a (positions longer) ≡ true
  pub length_is : length longer ≡ length list + n
  pub small : length longer ≤ 33554432

longer_list : (a : Area) (list : List Proposed) (first : Pos) (n : ℕ) (b c : BlockContent) → is_world_box a ≡ true → CanExtend a list first n
    → IsLonger a list (list ++ stretch a first n b c) n
longer_list a list first zero b c box can = absurd (omega (arith, can.some))
longer_list a list first (suc n) b c box can =
    let held = held_last a 0 (positions list) first can.rising in
    let part = chunk_box a first in
    let place = place_in_chunk a first in
    let is_first : position_of part place ≡ first = position_at_index part first (part_held a first held) in
    let rise = cells_rise a first b c place n box held can.fits in
    let rise_first : rises_from a (index_of a first) (first ∷ positions (cells part b c (place + 1) n)) ≡ true =
    subst (λ (p : Pos). rises_from a (index_of a p) (p ∷ positions (cells part b c (place + 1) n)) ≡ true) is_first rise in
    let joined = rises_join a 0 (positions list) (positions (cells part b c (place + 1) n)) first can.rising rise_first in
    let joined_cells : rises_from a 0 (positions list ++ positions (cells part b c place (suc n))) ≡ true =
    subst (λ (p : Pos). rises_from a 0 (positions list ++ p ∷ positions (cells part b c (place + 1) n)) ≡ true) (sym is_first) joined in
    let rising : rises a (positions (list ++ cells part b c place (suc n))) ≡ true = rw (map-append (λ (d : Proposed). d.at) list (cells part b c place (suc n))) joined_cells in
    let long : length (list ++ cells part b c place (suc n)) ≡ length list + suc n = length-append list (cells part b c place (suc n)) ∙ ap (λ (m : ℕ). length list + m) (length-cells part b c place (suc n)) in
    let room = rises_length a 0 (positions (list ++ cells part b c place (suc n))) (omega arith) rising in
    let as_many : length (positions (list ++ cells part b c place (suc n))) ≡ length (list ++ cells part b c place (suc n)) = length-map (list ++ cells part b c place (suc n)) (λ (d : Proposed). d.at) in
    let small_box = (limits a box).small in
    record {
      rising = rising;
      length_is = long;
      small = omega (arith, room, as_many, small_box);
    }

-- the breaks of a list with a stretch behind it
stretch_breaks : (a : Area) (list : List Proposed) (first : Pos) (n : ℕ) (b c : BlockContent) → is_world_box a ≡ true → CanExtend a list first n
    → breaks a (list ++ stretch a first n b c) ≡ breaks a list ++ cond (goes_on_behind a list (record { at = first; before = b; after = c })) [] (length list ∷ [])
stretch_breaks a list first zero b c box can = absurd (omega (arith, can.some))
stretch_breaks a list first (suc n) b c box can =
    let held = held_last a 0 (positions list) first can.rising in
    let part = chunk_box a first in
    let place = place_in_chunk a first in
    let d : Proposed = record { at = first; before = b; after = c } in
    let is_first : cell part b c place ≡ d = ap (λ (p : Pos). let e : Proposed = record { at = p; before = b; after = c } in e) (position_at_index part first (part_held a first held)) in
    let rest = cells part b c (place + 1) n in
    let none : breaks_behind a (cell part b c place) (length list + 1) rest ≡ [] = breaks_behind-cells a first b c place n (length list + 1) box held (omega (arith, can.fits)) in
    let none_first : breaks_behind a d (length list + 1) rest ≡ [] = subst (λ (e : Proposed). breaks_behind a e (length list + 1) rest ≡ []) is_first none in
    let split : breaks a (list ++ d ∷ rest) ≡ breaks a list ++ (cond (goes_on_behind a list d) [] (length list ∷ []) ++ breaks_behind a d (length list + 1) rest) = breaks-push a list d rest in
    let plain : breaks a (list ++ d ∷ rest) ≡ breaks a list ++ cond (goes_on_behind a list d) [] (length list ∷ []) =
    split ∙ ap (λ (ns : List ℕ). breaks a list ++ (cond (goes_on_behind a list d) [] (length list ∷ []) ++ ns)) none_first
    ∙ ap (λ (ns : List ℕ). breaks a list ++ ns) (append-nil (cond (goes_on_behind a list d) [] (length list ∷ []))) in
    subst (λ (e : Proposed). breaks a (list ++ e ∷ rest) ≡ breaks a list ++ cond (goes_on_behind a list d) [] (length list ∷ [])) (sym is_first) plain

-- a run more
run_behind : (a : Area) (start : ℕ) (runs : List ContentRun) (run : ContentRun) → AreRunsFrom a start runs → IsRun a (start + length (changes_of a runs)) run → AreRunsFrom a start (runs ++ run ∷ [])
run_behind a start [] run each is = let e : start + 0 ≡ start = omega arith in (subst (λ (s : ℕ). IsRun a s run) e is, tt)
run_behind a start (r ∷ runs) run each is =
    let one : length (run_changes a r) ≡ r.length = length-cells (chunk_box a r.first) r.before r.after (place_in_chunk a r.first) r.length in
    let e : start + length (run_changes a r ++ changes_of a runs) ≡ start + r.length + length (changes_of a runs) =
    ap (λ (m : ℕ). start + m) (length-append (run_changes a r) (changes_of a runs)) ∙ omega (arith, one) in
    (each.0, run_behind a (start + r.length) runs run each.1 (subst (λ (s : ℕ). IsRun a s run) e is))

pub begun : (a : Area) (runs : List ContentRun) (count : ℕ) (first : Pos) (n : ℕ) (b c : BlockContent) → is_world_box a ≡ true → AreKept a runs count
    → CanExtend a (changes_of a runs) first n → goes_on_behind a (changes_of a runs) (record { at = first; before = b; after = c }) ≡ false
    → IsExtended a runs count first n b c (runs ++ record { first = first; start = count; length = n; before = b; after = c } ∷ [])
begun a runs count first n b c box kept can apart =
    let run : ContentRun = record { first = first; start = count; length = n; before = b; after = c } in
    let list = changes_of a runs in
    let held = held_last a 0 (positions list) first can.rising in
    let more = longer_list a list first n b c box can in
    let whole : changes_of a (runs ++ run ∷ []) ≡ list ++ stretch a first n b c =
    flat_map-append (run_changes a) runs (run ∷ []) ∙ ap (λ (xs : List Proposed). list ++ xs) (append-nil (stretch a first n b c)) in
    let is_run : IsRun a (0 + length list) run = record { start_is = omega (arith, kept.count_is); some = can.some; held = held; fits = can.fits } in
    let starts : map (λ (r : ContentRun). r.start) (runs ++ run ∷ []) ≡ breaks a (list ++ stretch a first n b c) =
    map-append (λ (r : ContentRun). r.start) runs (run ∷ []) ∙ (λ i. kept.starts i ++ kept.count_is i ∷ [])
    ∙ sym (stretch_breaks a list first n b c box can ∙ ap (λ (t : Bool). breaks a list ++ cond t [] (length list ∷ [])) apart) in
    record {
      kept = record {
        each = run_behind a 0 runs run kept.each is_run;
        count_is = rw whole (omega (arith, more.length_is, kept.count_is));
        rising = rw whole more.rising;
        starts = rw whole starts;
      };
      list = whole;
      small = omega (arith, more.small, more.length_is, kept.count_is);
    }

-- a run and the stretch behind it are one stretch
record IsOneStretch (a : Area) (run : ContentRun) (first : Pos) (n : ℕ) (b c : BlockContent) : Type 0 where
  pub longer : run_changes a (record run { length = run.length + n }) ≡ run_changes a run ++ stretch a first n b c
  pub room : place_in_chunk a run.first + (run.length + n) ≤ volume (chunk_box a run.first)

-- what goes on behind the cells of a run is the next cell, with the run's contents
pub goes_on-run : (a : Area) (start : ℕ) (run : ContentRun) (d : Proposed) → is_world_box a ≡ true → IsRun a start run
    → goes_on_behind a (run_changes a run) d ≡ (follows a run.first run.length d.at && (same_content run.before d.before && same_content run.after d.after))
goes_on-run a start run d box is = by run.length refl
  where
    by : (len : ℕ) → run.length ≡ len → goes_on_behind a (run_changes a run) d ≡ (follows a run.first run.length d.at && (same_content run.before d.before && same_content run.after d.after))
    by zero e = absurd (omega (arith, is.some, e))
    by (suc m) e =
        let part = chunk_box a run.first in
        let place = place_in_chunk a run.first in
        let below : place + m < volume part = omega (arith, is.fits, e) in
        let last = block_of_part a run.first (place + m) box is.held below in
        let same : chunk_box a (position_of part (place + m)) ≡ part = same_part a run.first (position_of part (place + m)) last.held in
        let step : index_of part (position_of part (place + m)) + 1 ≡ place + run.length = omega (arith, last.place, e) in
        ap (λ (count : ℕ). goes_on_behind a (cells part run.before run.after place count) d) e
        ∙ goes_on_behind-cells a part run.before run.after place m (place + m) d refl
        ∙ ap (λ (area : Area). (holds area d.at && eqb (index_of area d.at) (index_of area (position_of part (place + m)) + 1)) && (same_content run.before d.before && same_content run.after d.after)) same
        ∙ ap (λ (n : ℕ). (holds part d.at && eqb (index_of part d.at) n) && (same_content run.before d.before && same_content run.after d.after)) step

-- where the change goes on behind a run, run and stretch are one
one_stretch : (a : Area) (start : ℕ) (run : ContentRun) (first : Pos) (n : ℕ) (b c : BlockContent) → is_world_box a ≡ true → IsRun a start run
    → place_in_chunk a first + n ≤ volume (chunk_box a first)
    → goes_on_behind a (run_changes a run) (record { at = first; before = b; after = c }) ≡ true → IsOneStretch a run first n b c
one_stretch a start run first n b c box is fits on =
    let d : Proposed = record { at = first; before = b; after = c } in
    let seen = sym (goes_on-run a start run d box is) ∙ on in
    let parts = and_both (follows a run.first run.length first) (same_content run.before b && same_content run.after c) seen in
    let where_is = and_both (holds (chunk_box a run.first) first) _ parts.0 in
    let contents = and_both (same_content run.before b) (same_content run.after c) parts.1 in
    let place : index_of (chunk_box a run.first) first ≡ place_in_chunk a run.first + run.length = eqb-true _ _ where_is.1 in
    let same : chunk_box a first ≡ chunk_box a run.first = same_part a run.first first where_is.0 in
    let eb : run.before ≡ b = (content_decides run.before b).0 contents.0 in
    let ec : run.after ≡ c = (content_decides run.after c).0 contents.1 in
    let joined = cells-append (chunk_box a run.first) run.before run.after (place_in_chunk a run.first) run.length n (run.length + n) refl in
    let there : place_in_chunk a first ≡ place_in_chunk a run.first + run.length = ap (λ (part : Area). index_of part first) same ∙ place in
    let back = sym same in
    let start_is = sym there in
    let second : cells (chunk_box a run.first) run.before run.after (place_in_chunk a run.first + run.length) n ≡ stretch a first n b c =
    λ i. cells (back i) (eb i) (ec i) (start_is i) n in
    record {
      longer = joined ∙ ap (λ (xs : List Proposed). run_changes a run ++ xs) second;
      room = omega (arith, subst (λ (part : Area). place_in_chunk a first + n ≤ volume part) same fits, there);
    }

-- What lengthening the last run gives: the stretch stands behind the changes, and the runs are as before else.
record IsLastLonger (a : Area) (start : ℕ) (runs : List ContentRun) (first : Pos) (n : ℕ) (b c : BlockContent) : Type 0 where
  pub whole : changes_of a (with_last_longer runs n) ≡ changes_of a runs ++ stretch a first n b c
  pub each : AreRunsFrom a start (with_last_longer runs n)
  pub starts : map (λ (r : ContentRun). r.start) (with_last_longer runs n) ≡ map (λ (r : ContentRun). r.start) runs

-- the changes of runs that are not empty begin with one
record IsHeaded (xs : List Proposed) : Type 0 where
  pub head : Proposed
  pub rest : List Proposed
  pub is : xs ≡ head ∷ rest

headed : (a : Area) (start : ℕ) (run : ContentRun) (runs : List ContentRun) → AreRunsFrom a start (run ∷ runs) → IsHeaded (changes_of a (run ∷ runs))
headed a start run runs each = by run.length refl
  where
    by : (len : ℕ) → run.length ≡ len → IsHeaded (changes_of a (run ∷ runs))
    by zero e = absurd (omega (arith, each.0.some, e))
    by (suc m) e =
        let part = chunk_box a run.first in
        let place = place_in_chunk a run.first in
        record {
          head = cell part run.before run.after place;
          rest = cells part run.before run.after (place + 1) m ++ changes_of a runs;
          is = ap (λ (count : ℕ). cells part run.before run.after place count ++ changes_of a runs) e;
        }

-- what goes on behind runs goes on behind the last
goes_on-rest : (a : Area) (start : ℕ) (first next : ContentRun) (runs : List ContentRun) (d : Proposed) → AreRunsFrom a start (next ∷ runs)
    → goes_on_behind a (changes_of a (first ∷ next ∷ runs)) d ≡ goes_on_behind a (changes_of a (next ∷ runs)) d
goes_on-rest a start first next runs d each =
    let h = headed a start next runs each in
    ap (λ (xs : List Proposed). goes_on_behind a (run_changes a first ++ xs) d) h.is ∙ goes_on_behind-append a (run_changes a first) h.head h.rest d ∙ ap (λ (xs : List Proposed). goes_on_behind a xs d) (sym h.is)

last_longer : (a : Area) (start : ℕ) (runs : List ContentRun) (first : Pos) (n : ℕ) (b c : BlockContent) → is_world_box a ≡ true → AreRunsFrom a start runs
    → place_in_chunk a first + n ≤ volume (chunk_box a first)
    → goes_on_behind a (changes_of a runs) (record { at = first; before = b; after = c }) ≡ true → IsLastLonger a start runs first n b c
last_longer a start [] first n b c box each fits on = absurd cc
last_longer a start (run ∷ []) first n b c box each fits on =
    let d : Proposed = record { at = first; before = b; after = c } in
    let alone : goes_on_behind a (run_changes a run) d ≡ true = subst (λ (xs : List Proposed). goes_on_behind a xs d ≡ true) (append-nil (run_changes a run)) on in
    let one = one_stretch a start run first n b c box each.0 fits alone in
    let is = each.0 in
    record {
      whole = append-nil (run_changes a (record run { length = run.length + n })) ∙ one.longer ∙ ap (λ (xs : List Proposed). xs ++ stretch a first n b c) (sym (append-nil (run_changes a run)));
      each = (record { start_is = is.start_is; some = omega (arith, is.some); held = is.held; fits = one.room }, tt);
      starts = refl;
    }
last_longer a start (run ∷ next ∷ runs) first n b c box each fits on =
    let d : Proposed = record { at = first; before = b; after = c } in
    let on_rest : goes_on_behind a (changes_of a (next ∷ runs)) d ≡ true = sym (goes_on-rest a (start + run.length) run next runs d each.1) ∙ on in
    let rest = last_longer a (start + run.length) (next ∷ runs) first n b c box each.1 fits on_rest in
    record {
      whole = ap (λ (xs : List Proposed). run_changes a run ++ xs) rest.whole ∙ sym (append_assoc (run_changes a run) (changes_of a (next ∷ runs)) (stretch a first n b c));
      each = (each.0, rest.each);
      starts = ap (λ (ns : List ℕ). run.start ∷ ns) rest.starts;
    }

pub lengthened : (a : Area) (runs : List ContentRun) (count : ℕ) (first : Pos) (n : ℕ) (b c : BlockContent) → is_world_box a ≡ true → AreKept a runs count
    → CanExtend a (changes_of a runs) first n → goes_on_behind a (changes_of a runs) (record { at = first; before = b; after = c }) ≡ true
    → IsExtended a runs count first n b c (with_last_longer runs n)
lengthened a runs count first n b c box kept can on =
    let list = changes_of a runs in
    let more = longer_list a list first n b c box can in
    let last = last_longer a 0 runs first n b c box kept.each can.fits on in
    let no_break : breaks a (list ++ stretch a first n b c) ≡ breaks a list =
    stretch_breaks a list first n b c box can ∙ ap (λ (t : Bool). breaks a list ++ cond t [] (length list ∷ [])) on ∙ append-nil (breaks a list) in
    record {
      kept = record {
        each = last.each;
        count_is = rw last.whole (omega (arith, more.length_is, kept.count_is));
        rising = rw last.whole more.rising;
        starts = rw last.whole (last.starts ∙ kept.starts ∙ sym no_break);
      };
      list = last.whole;
      small = omega (arith, more.small, more.length_is, kept.count_is);
    }

-- what is known of the last of runs
pub record IsLast (a : Area) (runs : List ContentRun) (run : ContentRun) : Type 0 where
  pub start : ℕ
  pub is : IsRun a start run
  pub behind : (d : Proposed) → goes_on_behind a (changes_of a runs) d ≡ (follows a run.first run.length d.at && (same_content run.before d.before && same_content run.after d.after))

pub last_run : (a : Area) (start : ℕ) (runs : List ContentRun) (k : ℕ) (run : ContentRun) → is_world_box a ≡ true → AreRunsFrom a start runs → k + 1 ≡ length runs → slice_get runs k ≡ Some run → IsLast a runs run
last_run a start [] k run box each e there = absurd (omega (arith, e))
last_run a start (r ∷ []) zero run box each e there =
    let same : r ≡ run = cc in
    let is : IsRun a start run = subst (λ (s : ContentRun). IsRun a start s) same each.0 in
    record { start = start; is = is; behind = λ d. ap (λ (s : ContentRun). goes_on_behind a (changes_of a (s ∷ [])) d) same ∙ ap (λ (xs : List Proposed). goes_on_behind a xs d) (append-nil (run_changes a run)) ∙ goes_on-run a start run d box is }
last_run a start (r ∷ []) (suc k) run box each e there = absurd (omega (arith, e))
last_run a start (r ∷ next ∷ runs) zero run box each e there = absurd (omega (arith, e))
last_run a start (r ∷ next ∷ runs) (suc k) run box each e there =
    let rest = last_run a (start + r.length) (next ∷ runs) k run box each.1 (omega (arith, e)) there in
    record { start = rest.start; is = rest.is; behind = λ d. goes_on-rest a (start + r.length) r next runs d each.1 ∙ rest.behind d }

-- a last run with more cells still has few enough
pub last_fits : (a : Area) (start : ℕ) (runs : List ContentRun) (k more : ℕ) → AreRunsFrom a start runs → length (changes_of a runs) + more ≤ 33554432 → IfSome (slice_get runs k) (λ run. run.length + more < 4294967296)
last_fits a start [] k more each small = tt
last_fits a start (run ∷ runs) zero more each small =
    let one : length (run_changes a run) ≡ run.length = length-cells (chunk_box a run.first) run.before run.after (place_in_chunk a run.first) run.length in
    omega (arith, small, one, length-append (run_changes a run) (changes_of a runs))
last_fits a start (run ∷ runs) (suc k) more each small = last_fits a (start + run.length) runs k more each.1 (omega (arith, small, length-append (run_changes a run) (changes_of a runs)))

-- where a stretch may stand, from what is seen of the changes
pub can_extend : (a : Area) (runs : List ContentRun) (seen : ChangeList) (first : Pos) (n : ℕ) → record { area = a; list = changes_of a runs } ≡ seen
    → rises seen.area (positions seen.list ++ first ∷ []) ≡ true → place_in_chunk seen.area first + n ≤ volume (chunk_box seen.area first) → (n ≡ 0 → ⊥)
    → CanExtend a (changes_of a runs) first n
can_extend a runs seen first n is rising fits some =
    let back = sym is in
    record {
      rising = subst (λ (s : ChangeList). rises s.area (positions s.list ++ first ∷ []) ≡ true) back rising;
      fits = subst (λ (s : ChangeList). place_in_chunk s.area first + n ≤ volume (chunk_box s.area first)) back fits;
      some = omega (arith, some);
    }

-- what is seen of the changes with a stretch more
pub seen_longer : (a : Area) (runs : List ContentRun) (count : ℕ) (seen : ChangeList) (first : Pos) (n : ℕ) (b c : BlockContent) (longer : List ContentRun) → record { area = a; list = changes_of a runs } ≡ seen
    → IsExtended a runs count first n b c longer → changes_of a longer ≡ seen.list ++ stretch seen.area first n b c
seen_longer a runs count seen first n b c longer is more = more.list ∙ ap (λ (s : ChangeList). s.list ++ stretch s.area first n b c) is

-- changes go on being changes with unlike contents behind them
pub changing_more : (a : Area) (list : List Proposed) (first : Pos) (n : ℕ) (b c : BlockContent) → list_all is_change list ≡ true → same_content b c ≡ false → list_all is_change (list ++ stretch a first n b c) ≡ true
changing_more a list first n b c changing differs =
    rw (list_all-append is_change list (stretch a first n b c)) (both_true changing (cells_change (chunk_box a first) b c (place_in_chunk a first) n differs))

-- a stretch whose contents differ is kept
pub kept_by_difference : (a : Area) (first : Pos) (n : ℕ) (b c : BlockContent) → same_content b c ≡ false → kept_stretch a first n b c ≡ stretch a first n b c
kept_by_difference a first n b c differs = rw differs refl

-- the same from what is read and seen: a longer last run, or a run more
pub grown : (a : Area) (runs read : List ContentRun) (count : ℕ) (seen : ChangeList) (first : Pos) (n : ℕ) (b c : BlockContent) → is_world_box a ≡ true → AreKept a runs count
    → record { area = a; list = changes_of a runs } ≡ seen → rises seen.area (positions seen.list ++ first ∷ []) ≡ true → place_in_chunk seen.area first + n ≤ volume (chunk_box seen.area first)
    → (n ≡ 0 → ⊥) → read ≡ runs → goes_on_behind a (changes_of a read) (record { at = first; before = b; after = c }) ≡ true
    → IsExtended a runs count first n b c (with_last_longer runs n)
grown a runs read count seen first n b c box kept is rising fits some same on =
    lengthened a runs count first n b c box kept (can_extend a runs seen first n is rising fits some)
    (subst (λ (rs : List ContentRun). goes_on_behind a (changes_of a rs) (record { at = first; before = b; after = c }) ≡ true) same on)

pub started : (a : Area) (runs read : List ContentRun) (count : ℕ) (seen : ChangeList) (first : Pos) (n : ℕ) (b c : BlockContent) → is_world_box a ≡ true → AreKept a runs count
    → record { area = a; list = changes_of a runs } ≡ seen → rises seen.area (positions seen.list ++ first ∷ []) ≡ true → place_in_chunk seen.area first + n ≤ volume (chunk_box seen.area first)
    → (n ≡ 0 → ⊥) → read ≡ runs → goes_on_behind a (changes_of a read) (record { at = first; before = b; after = c }) ≡ false
    → IsExtended a runs count first n b c (runs ++ record { first = first; start = count; length = n; before = b; after = c } ∷ [])
started a runs read count seen first n b c box kept is rising fits some same apart =
    begun a runs count first n b c box kept (can_extend a runs seen first n is rising fits some)
    (subst (λ (rs : List ContentRun). goes_on_behind a (changes_of a rs) (record { at = first; before = b; after = c }) ≡ false) same apart)

-- a stretch of one cell is that change
pub one_cell : (a : Area) (p : Pos) (b c : BlockContent) → holds a p ≡ true → kept_stretch a p 1 b c ≡ kept_change (record { at = p; before = b; after = c })
one_cell a p b c held = ap (λ (xs : List Proposed). cond (same_content b c) [] xs) (stretch_first a p 0 b c held)

pub one_cell_fits : (a : Area) (p : Pos) → holds a p ≡ true → place_in_chunk a p + 1 ≤ volume (chunk_box a p)
one_cell_fits a p held = let below = held_below (chunk_box a p) p (part_held a p held) in omega (arith, below)

pub rising_held : (a : Area) (ps : List Pos) (p : Pos) → rises a (ps ++ p ∷ []) ≡ true → holds a p ≡ true
rising_held a ps p h = held_last a 0 ps p h

-- where the first of two tests fails, both together do
pub first_fails : (x r t : Bool) → t ≡ (x && r) → x ≡ false → false ≡ t
first_fails true r t e p = absurd cc
first_fails false r t e p = sym e

-- the cells of a stretch rise up to a later cell of their chunk
cells_up_to : (a : Area) (p q : Pos) (b c : BlockContent) (k n : ℕ) → is_world_box a ≡ true → holds a p ≡ true → holds (chunk_box a p) q ≡ true → k + suc n ≤ volume (chunk_box a p) → k + suc n ≤ index_of (chunk_box a p) q
    → rises_from a (index_of a (position_of (chunk_box a p) k)) (positions (cells (chunk_box a p) b c k (suc n)) ++ q ∷ []) ≡ true
cells_up_to a p q b c k zero box held held_q fits above =
    let part = chunk_box a p in
    let here = block_of_part a p k box held (omega (arith, fits)) in
    let order : index_of part (position_of part k) < index_of part q = rw here.place (omega (arith, above)) in
    let less : index_of a (position_of part k) < index_of a q = part_order a p (position_of part k) q held here.held held_q order in
    rising_from_first a (index_of a (position_of part k)) (position_of part k) (q ∷ []) (record {
      held = in_part a p (position_of part k) here.held;
      from = omega arith;
      rest = rising_from_first a (index_of a (position_of part k) + 1) q [] (record { held = in_part a p q held_q; from = omega (arith, less); rest = refl });
    })
cells_up_to a p q b c k (suc n) box held held_q fits above =
    let part = chunk_box a p in
    let here = block_of_part a p k box held (omega (arith, fits)) in
    let next = block_of_part a p (k + 1) box held (omega (arith, fits)) in
    let order : index_of part (position_of part k) < index_of part (position_of part (k + 1)) = rw (here.place, next.place) (omega arith) in
    let less : index_of a (position_of part k) < index_of a (position_of part (k + 1)) = part_order a p (position_of part k) (position_of part (k + 1)) held here.held next.held order in
    let rest = cells_up_to a p q b c (k + 1) n box held held_q (omega (arith, fits)) (omega (arith, above)) in
    rising_from_first a (index_of a (position_of part k)) (position_of part k) (positions (cells part b c (k + 1) (suc n)) ++ q ∷ []) (record {
      held = in_part a p (position_of part k) here.held;
      from = omega arith;
      rest = rises_lower a (index_of a (position_of part k) + 1) (index_of a (position_of part (k + 1))) (positions (cells part b c (k + 1) (suc n)) ++ q ∷ []) (omega (arith, less)) rest;
    })

-- behind a stretch may come each later cell of its chunk
stretch_up_to : (a : Area) (list : List Proposed) (first q : Pos) (n : ℕ) (b c : BlockContent) → is_world_box a ≡ true → rises a (positions list ++ first ∷ []) ≡ true
    → place_in_chunk a first + suc n ≤ volume (chunk_box a first) → holds (chunk_box a first) q ≡ true → place_in_chunk a first + suc n ≤ index_of (chunk_box a first) q
    → rises a (positions (list ++ stretch a first (suc n) b c) ++ q ∷ []) ≡ true
stretch_up_to a list first q n b c box rising fits held_q above =
    let held = held_last a 0 (positions list) first rising in
    let part = chunk_box a first in
    let place = place_in_chunk a first in
    let is_first : position_of part place ≡ first = position_at_index part first (part_held a first held) in
    let rest = positions (cells part b c (place + 1) n) ++ q ∷ [] in
    let up_to = cells_up_to a first q b c place n box held held_q fits above in
    let from_first : rises_from a (index_of a first) (first ∷ rest) ≡ true = subst (λ (p : Pos). rises_from a (index_of a p) (p ∷ positions (cells part b c (place + 1) n) ++ q ∷ []) ≡ true) is_first up_to in
    let joined = rises_join a 0 (positions list) rest first rising from_first in
    let joined_cells : rises_from a 0 (positions list ++ (positions (cells part b c place (suc n)) ++ q ∷ [])) ≡ true =
    subst (λ (p : Pos). rises_from a 0 (positions list ++ p ∷ (positions (cells part b c (place + 1) n) ++ q ∷ [])) ≡ true) (sym is_first) joined in
    rw (map-append (λ (d : Proposed). d.at) list (cells part b c place (suc n)), append_assoc (positions list) (positions (cells part b c place (suc n))) (q ∷ [])) joined_cells

-- the same where equal contents are left out
pub follows_stretch : (a : Area) (list : List Proposed) (first q : Pos) (n : ℕ) (b c : BlockContent) → is_world_box a ≡ true → rises a (positions list ++ first ∷ []) ≡ true → rises a (positions list ++ q ∷ []) ≡ true
    → place_in_chunk a first + suc n ≤ volume (chunk_box a first) → holds (chunk_box a first) q ≡ true → place_in_chunk a first + suc n ≤ index_of (chunk_box a first) q
    → rises a (positions (list ++ kept_stretch a first (suc n) b c) ++ q ∷ []) ≡ true
follows_stretch a list first q n b c box rising behind fits held_q above = by (same_content b c)
  where
    by : (t : Bool) → rises a (positions (list ++ cond t [] (stretch a first (suc n) b c)) ++ q ∷ []) ≡ true
    by true = rw (append-nil list) behind
    by false = stretch_up_to a list first q n b c box rising fits held_q above
