-- What stands at a place of the changes that runs keep: the run that starts last at or before the place has it.
use Rattle.std.proofs.Common.{◌≡◌, ℕ, zero, suc, ◌+◌, ◌-◌, ◌<◌, ◌≤◌, List, [], ◌∷◌, ◌++◌, length, Option, Some, None, slice_get, get_or, option_map, MatchOption, refl, sym, ap, ◌∙◌, subst, arith, append_assoc, take, drop}
use Rattle.std.specs.List.{All}
use Rattle.std.specs.List.Sorted.{IsNonDecreasingBy}
use Rattle.std.proofs.lemmas.List.Elements.{All-nil, All-cons}
use Rattle.std.proofs.Math.Seq.{take-append_seam, drop-append_seam}
use Rattle.std.proofs.lemmas.List.{length-append, length-map}
use Rattle.std.proofs.lemmas.Option.{slice_get-map, slice_get_past}
use Rattle.std.specs.Option.{option_and_then}
use Rattle.edit_terms.specs.CellList.{position_in, content_in, state_in, entity_in, IsSameFrom, IsStretch}
use Rattle.edit_terms.specs.declared.pos.Pos.{Pos}
use Rattle.edit_terms.specs.Area.{Area, position_of}
use Rattle.edit_terms.specs.World.{BlockContent}
use Rattle.change_set.specs.declared.proposed.Proposed.{Proposed}
use Rattle.change_set.specs.ContentRun.{ContentRun}
use Rattle.edit_terms.specs.Chunk.{chunk_box, place_in_chunk}
use Rattle.change_set.specs.Changes.{run_changes, changes_of, afters, befores, IsRunOf}
use Rattle.change_set.specs.Runs.{IsRun, AreRunsFrom, IsRunAt, cell_of_run, rest_of}
use Rattle.change_set.proofs.ListLemmas.{cell, cells, length-cells}

-- a place in the first of two lists, and one in the second
pub slice_get-append_left : {X : Type 0} (xs ys : List X) (i : ℕ) → i < length xs → slice_get (xs ++ ys) i ≡ slice_get xs i
slice_get-append_left [] ys i h = absurd (omega (arith, h))
slice_get-append_left (x ∷ xs) ys zero h = refl
slice_get-append_left (x ∷ xs) ys (suc i) h = slice_get-append_left xs ys i (omega (arith, h))

pub slice_get-append_right : {X : Type 0} (xs ys : List X) (i j : ℕ) → j ≡ length xs + i → slice_get (xs ++ ys) j ≡ slice_get ys i
slice_get-append_right [] ys i j e = let same : j ≡ i = omega (arith, e) in ap (slice_get ys) same
slice_get-append_right (x ∷ xs) ys i zero e = absurd (omega (arith, e))
slice_get-append_right (x ∷ xs) ys i (suc j) e = slice_get-append_right xs ys i j (omega (arith, e))

pub slice_get-cells : (part : Area) (b c : BlockContent) (place n j t : ℕ) → j < n → t ≡ place + j → slice_get (cells part b c place n) j ≡ Some (cell part b c t)
slice_get-cells part b c place zero j t h e = absurd (omega (arith, h))
slice_get-cells part b c place (suc n) zero t h e = let same : place ≡ t = omega (arith, e) in ap (λ (k : ℕ). let d : Option Proposed = Some (cell part b c k) in d) same
slice_get-cells part b c place (suc n) (suc j) t h e = slice_get-cells part b c (place + 1) n j t (omega (arith, h)) (omega (arith, e))

-- where the changes of one of the runs stand
pub record IsPlaced (a : Area) (start : ℕ) (runs : List ContentRun) (k : ℕ) (run : ContentRun) : Type 0 where
  pub before : ℕ
  pub start_is : run.start ≡ start + before
  pub is : IsRun a run.start run
  pub each : (j : ℕ) → j < run.length → slice_get (changes_of a runs) (before + j) ≡ Some (cell_of_run a run j)
  pub within : before + run.length ≤ length (changes_of a runs)
  pub next : MatchOption (slice_get runs (k + 1)) (before + run.length ≡ length (changes_of a runs)) (λ after. after.start ≡ run.start + run.length)

-- the run behind the first one starts where that ends
next_start : (a : Area) (start : ℕ) (run : ContentRun) (runs : List ContentRun) → AreRunsFrom a start (run ∷ runs) → MatchOption (slice_get (run ∷ runs) 1) (0 + run.length ≡ length (changes_of a (run ∷ runs))) (λ after. after.start ≡ run.start + run.length)
next_start a start run [] each =
    let one : length (run_changes a run) ≡ run.length = length-cells (chunk_box a run.first) run.before run.after (place_in_chunk a run.first) run.length in
    omega (arith, one, length-append (run_changes a run) [])
next_start a start run (after ∷ runs) each = let first = each.0.start_is in let second = each.1.0.start_is in omega (arith, first, second)

-- the same behind more changes
behind_more : (o : Option ContentRun) (before len more total all end : ℕ) → all ≡ more + total → MatchOption o (before + len ≡ total) (λ after. after.start ≡ end)
    → MatchOption o (more + before + len ≡ all) (λ after. after.start ≡ end)
behind_more None before len more total all end e h = omega (arith, e, h)
behind_more (Some after) before len more total all end e h = h

pub placed : (a : Area) (start : ℕ) (runs : List ContentRun) (k : ℕ) (run : ContentRun) → AreRunsFrom a start runs → slice_get runs k ≡ Some run → IsPlaced a start runs k run
placed a start [] k run each there = absurd cc
placed a start (r ∷ runs) zero run each there =
    let same : r ≡ run = cc in
    let one : length (run_changes a r) ≡ r.length = length-cells (chunk_box a r.first) r.before r.after (place_in_chunk a r.first) r.length in
    let start_is = each.0.start_is in
    subst (λ (s : ContentRun). IsPlaced a start (r ∷ runs) 0 s) same (record {
      before = 0;
      start_is = omega (arith, start_is);
      is = subst (λ (n : ℕ). IsRun a n r) (sym start_is) each.0;
      each = λ j below. let e : 0 + j ≡ j = omega arith in let in_run : j < length (run_changes a r) = omega (arith, one, below) in
          rw e (slice_get-append_left (run_changes a r) (changes_of a runs) j in_run ∙ slice_get-cells (chunk_box a r.first) r.before r.after (place_in_chunk a r.first) r.length j (place_in_chunk a r.first + j) below refl);
      within = omega (arith, one, length-append (run_changes a r) (changes_of a runs));
      next = next_start a start r runs each;
    })
placed a start (r ∷ runs) (suc k) run each there =
    let rest = placed a (start + r.length) runs k run each.1 there in
    let one : length (run_changes a r) ≡ r.length = length-cells (chunk_box a r.first) r.before r.after (place_in_chunk a r.first) r.length in
    let long = length-append (run_changes a r) (changes_of a runs) in
    record {
      before = r.length + rest.before;
      start_is = omega (arith, rest.start_is);
      is = rest.is;
      each = λ j below. slice_get-append_right (run_changes a r) (changes_of a runs) (rest.before + j) (r.length + rest.before + j) (omega (arith, one)) ∙ rest.each j below;
      within = omega (arith, one, long, rest.within);
      next = let e : suc k + 1 ≡ suc (k + 1) = omega arith in
          subst (λ (n : ℕ). MatchOption (slice_get (r ∷ runs) n) (r.length + rest.before + run.length ≡ length (changes_of a (r ∷ runs))) (λ after. after.start ≡ run.start + run.length)) (sym e)
          (behind_more (slice_get runs (k + 1)) rest.before run.length r.length (length (changes_of a runs)) (length (changes_of a (r ∷ runs))) (run.start + run.length) (omega (arith, long, one)) rest.next);
    }

-- the run that starts last at or before a place has the change there
ends_behind : (o : Option ContentRun) (i before len start total : ℕ) → start ≡ before → i < total → MatchOption o (before + len ≡ total) (λ after. after.start ≡ start + len)
    → ((after : ContentRun) → o ≡ Some after → i < after.start) → i < start + len
ends_behind None i before len start total e within next above = omega (arith, e, within, next)
ends_behind (Some after) i before len start total e within next above = let here : i < after.start = above after refl in omega (arith, next, here)

pub run_at : (a : Area) (runs : List ContentRun) (k : ℕ) (run : ContentRun) (i : ℕ) → AreRunsFrom a 0 runs → slice_get runs k ≡ Some run → i < length (changes_of a runs) → run.start ≤ i
    → ((after : ContentRun) → slice_get runs (k + 1) ≡ Some after → i < after.start) → IsRunAt a (changes_of a runs) i run
run_at a runs k run i each there within from above =
    let p = placed a 0 runs k run each there in
    let start_is : run.start ≡ p.before = omega (arith, p.start_is) in
    record {
      from = from;
      to = ends_behind (slice_get runs (k + 1)) i p.before run.length run.start (length (changes_of a runs)) start_is within p.next above;
      held = p.is.held;
      fits = p.is.fits;
      within = omega (arith, start_is, p.within);
      each = λ j below. rw start_is (p.each j below);
    }

-- the change at the place
pub change_there : (a : Area) (list : List Proposed) (i : ℕ) (run : ContentRun) → IsRunAt a list i run → (k : ℕ) → i ≤ k → k < run.start + run.length → slice_get list k ≡ Some (cell_of_run a run (k - run.start))
change_there a list i run is k from to =
    let e : run.start + (k - run.start) ≡ k = omega (arith, is.from, from) in
    let below : k - run.start < run.length = omega (arith, to, is.from, from) in
    subst (λ (n : ℕ). slice_get list n ≡ Some (cell_of_run a run (k - run.start))) e (is.each (k - run.start) below)

-- what is read at a place of the list of positions and contents afterwards, or before
pub after_read : (a : Area) (list : List Proposed) (i : ℕ) (run : ContentRun) → IsRunAt a list i run → (k : ℕ) → i ≤ k → k < run.start + run.length → slice_get (afters list) k ≡ Some ((cell_of_run a run (k - run.start)).at, run.after)
after_read a list i run is k from to = slice_get-map (λ (d : Proposed). (d.at, d.after)) list k ∙ ap (option_map (λ (d : Proposed). (d.at, d.after))) (change_there a list i run is k from to)

pub before_read : (a : Area) (list : List Proposed) (i : ℕ) (run : ContentRun) → IsRunAt a list i run → (k : ℕ) → i ≤ k → k < run.start + run.length → slice_get (befores list) k ≡ Some ((cell_of_run a run (k - run.start)).at, run.before)
before_read a list i run is k from to = slice_get-map (λ (d : Proposed). (d.at, d.before)) list k ∙ ap (option_map (λ (d : Proposed). (d.at, d.before))) (change_there a list i run is k from to)

-- a place past the end has no entity
pub no_entity_past : (list : List (Pos × BlockContent)) (i : ℕ) → length list ≤ i → entity_in list i ≡ None
no_entity_past list i past = ap (λ (o : Option (Pos × BlockContent)). option_and_then (λ c. c.entity) (option_map (λ c. c.1) o)) (slice_get_past list i past)

-- what is read at a place, from the pair there
pub position_there : (list : List (Pos × BlockContent)) (i : ℕ) (p : Pos) (c : BlockContent) → slice_get list i ≡ Some (p, c) → position_in list i ≡ Some p
position_there list i p c there = ap (option_map (λ (d : Pos × BlockContent). d.0)) there

pub state_there : (list : List (Pos × BlockContent)) (i : ℕ) (p : Pos) (c : BlockContent) → slice_get list i ≡ Some (p, c) → state_in list i ≡ Some c.state
state_there list i p c there = ap (λ (o : Option (Pos × BlockContent)). option_map (λ (d : BlockContent). d.state) (option_map (λ (d : Pos × BlockContent). d.1) o)) there

pub entity_there : (list : List (Pos × BlockContent)) (i : ℕ) (p : Pos) (c : BlockContent) → slice_get list i ≡ Some (p, c) → entity_in list i ≡ c.entity
entity_there list i p c there = ap (λ (o : Option (Pos × BlockContent)). option_and_then (λ (d : BlockContent). d.entity) (option_map (λ (d : Pos × BlockContent). d.1) o)) there

pub content_there : (list : List (Pos × BlockContent)) (i : ℕ) (p : Pos) (c : BlockContent) → slice_get list i ≡ Some (p, c) → content_in list i ≡ Some c
content_there list i p c there = ap (option_map (λ (d : Pos × BlockContent). d.1)) there

-- the contents stay the same to the run's end
pub afters_stay : (a : Area) (list : List Proposed) (i : ℕ) (run : ContentRun) → IsRunAt a list i run → IsSameFrom (afters list) i (run.length - (i - run.start))
afters_stay a list i run is further below =
    let here : i < run.start + run.length = is.to in
    let there : i + further < run.start + run.length = omega (arith, below, here, is.from) in
    content_there (afters list) (i + further) _ run.after (after_read a list i run is (i + further) (omega arith) there) ∙ sym (content_there (afters list) i _ run.after (after_read a list i run is i (omega arith) here))

pub befores_stay : (a : Area) (list : List Proposed) (i : ℕ) (run : ContentRun) → IsRunAt a list i run → IsSameFrom (befores list) i (run.length - (i - run.start))
befores_stay a list i run is further below =
    let here : i < run.start + run.length = is.to in
    let there : i + further < run.start + run.length = omega (arith, below, here, is.from) in
    content_there (befores list) (i + further) _ run.before (before_read a list i run is (i + further) (omega arith) there) ∙ sym (content_there (befores list) i _ run.before (before_read a list i run is i (omega arith) here))

-- as many afterwards, and before, as there are changes
pub length-afters : (list : List Proposed) → length (afters list) ≡ length list
length-afters list = length-map list (λ (d : Proposed). (d.at, d.after))

pub length-befores : (list : List Proposed) → length (befores list) ≡ length list
length-befores list = length-map list (λ (d : Proposed). (d.at, d.before))

-- what is left of a run behind a place is a stretch, of whatever is read of the changes
stretch_read : (a : Area) (list : List Proposed) (read : List (Pos × BlockContent)) (i : ℕ) (run : ContentRun) (content : BlockContent) → IsRunAt a list i run → length read ≡ length list
    → ((k : ℕ) → i ≤ k → k < run.start + run.length → slice_get read k ≡ Some ((cell_of_run a run (k - run.start)).at, content))
    → IsSameFrom read i (run.length - (i - run.start)) → IsStretch read i (rest_of a run.first run.length (i - run.start))
stretch_read a list read i run content is as_many there stays =
    let from = is.from in
    let to = is.to in
    let fits = is.fits in
    let within = is.within in
    record {
      some = omega (arith, from, to);
      within = omega (arith, from, to, within, as_many);
      fits = omega (arith, from, to, fits);
      places = λ further below.
          let high : i + further < run.start + run.length = omega (arith, from, to, below) in
          let e : place_in_chunk a run.first + (i + further - run.start) ≡ place_in_chunk a run.first + (i - run.start) + further = omega (arith, from) in
          position_there read (i + further) _ content (there (i + further) (omega arith) high)
          ∙ ap (λ (n : ℕ). Some (position_of (chunk_box a run.first) n)) e;
      same = stays;
    }

pub afters_stretch : (a : Area) (list : List Proposed) (i : ℕ) (run : ContentRun) → IsRunAt a list i run → IsStretch (afters list) i (rest_of a run.first run.length (i - run.start))
afters_stretch a list i run is = stretch_read a list (afters list) i run run.after is (length-afters list) (after_read a list i run is) (afters_stay a list i run is)

pub befores_stretch : (a : Area) (list : List Proposed) (i : ℕ) (run : ContentRun) → IsRunAt a list i run → IsStretch (befores list) i (rest_of a run.first run.length (i - run.start))
befores_stretch a list i run is = stretch_read a list (befores list) i run run.before is (length-befores list) (before_read a list i run is) (befores_stay a list i run is)

-- the starts of runs rise
start_from : (a : Area) (start : ℕ) (runs : List ContentRun) (j : ℕ) (d : ContentRun) → AreRunsFrom a start runs → j < length runs → start ≤ (get_or runs j d).start
start_from a start [] j d each below = absurd (omega (arith, below))
start_from a start (run ∷ runs) zero d each below = let first = each.0.start_is in omega (arith, first)
start_from a start (run ∷ runs) (suc j) d each below =
    let rest = start_from a (start + run.length) runs j d each.1 (omega (arith, below)) in
    omega (arith, rest)

starts_rise : (a : Area) (start : ℕ) (runs : List ContentRun) → AreRunsFrom a start runs → (i j : ℕ) (d : ContentRun) → i ≤ j → j < length runs → (get_or runs i d).start ≤ (get_or runs j d).start
starts_rise a start [] each i j d order below = absurd (omega (arith, below))
starts_rise a start (run ∷ runs) each zero zero d order below = omega arith
starts_rise a start (run ∷ runs) each zero (suc j) d order below =
    let first = each.0.start_is in
    let rest = start_from a (start + run.length) runs j d each.1 (omega (arith, below)) in
    omega (arith, first, rest)
starts_rise a start (run ∷ runs) each (suc i) zero d order below = absurd (omega (arith, order))
starts_rise a start (run ∷ runs) each (suc i) (suc j) d order below = starts_rise a (start + run.length) runs each.1 i j d (omega (arith, order)) (omega (arith, below))

pub starts_sorted : (a : Area) (runs : List ContentRun) → AreRunsFrom a 0 runs → IsNonDecreasingBy (λ (run : ContentRun). run.start) runs
starts_sorted a runs each = starts_rise a 0 runs each

-- each of the runs is one of the list that they make, behind changes that stand before it
runs_of : (a : Area) (start : ℕ) (runs : List ContentRun) (earlier list : List Proposed) → AreRunsFrom a start runs → start ≡ length earlier → list ≡ earlier ++ changes_of a runs
    → All (IsRunOf (record { area = a; list = list })) runs
runs_of a start [] earlier list each e whole = All-nil (IsRunOf (record { area = a; list = list }))
runs_of a start (run ∷ runs) earlier list each e whole =
    let is = each.0 in
    let place : run.start ≡ length earlier = is.start_is ∙ e in
    let one : length (run_changes a run) ≡ run.length = length-cells (chunk_box a run.first) run.before run.after (place_in_chunk a run.first) run.length in
    let behind : drop run.start list ≡ run_changes a run ++ changes_of a runs =
    (λ i. drop (place i) (whole i)) ∙ drop-append_seam earlier (run_changes a run ++ changes_of a runs) in
    let here : take run.length (drop run.start list) ≡ run_changes a run =
    (λ i. take (sym one i) (behind i)) ∙ take-append_seam (run_changes a run) (changes_of a runs) in
    let next : start + run.length ≡ length (earlier ++ run_changes a run) = omega (arith, e, one, length-append earlier (run_changes a run)) in
    All-cons (IsRunOf (record { area = a; list = list })) run runs (record { some = is.some; held = is.held; fits = is.fits; changes = here })
    (runs_of a (start + run.length) runs (earlier ++ run_changes a run) list each.1 next (whole ∙ sym (append_assoc earlier (run_changes a run) (changes_of a runs))))

pub each_is_run_of : (a : Area) (runs : List ContentRun) → AreRunsFrom a 0 runs → All (IsRunOf (record { area = a; list = changes_of a runs })) runs
each_is_run_of a runs each = runs_of a 0 runs [] (changes_of a runs) each refl refl

pub ruleset as_many = (length-afters, length-befores)
