-- A ticket changes nothing outside the chunks that its command writes.
--
-- A job changes only blocks of its boxes. An undo or a redo brings back changes of its edits' tickets, which are earlier:
-- those lie in the edits' chunks, and these belong to the chunks that the undo or redo writes.
use Rattle.std.proofs.Common.{◌≡◌, ℕ, zero, suc, ◌+◌, ◌<◌, ◌≤◌, eqb, Bool, true, false, cond, ◌&&◌, ◌||◌, List, [], ◌∷◌, length, map, take, drop, get_or, Option, Some, None, refl, sym, ap, ◌∙◌, subst, arith}
use Rattle.std.specs.Prelude.{All, IfSome, reverse, flat_map}
use Rattle.std.specs.List.{range_with_len, list_any, find}
use Rattle.std.specs.Option.{option_map_or}
use Rattle.std.proofs.lemmas.Bool.{eq-eqb}
use Rattle.std.proofs.lemmas.List.{take-append-drop}
use Rattle.std.proofs.lemmas.List.Concat.{flat_map-cons}
use Rattle.std.proofs.lemmas.List.Elements.{All-nil, All-cons, All-head, All-tail, All-map}
use Rattle.std.proofs.lemmas.List.Folds.{list_any-append, find-append}
use Rattle.std.proofs.lemmas.List.FromFn.{get_or-map-range_with_len}
use Rattle.std.proofs.lemmas.List.Sums.{sum_by-append}
use Rattle.std.proofs.lemmas.Map.Views.{any-filter_same}
use Rattle.edit_terms.specs.declared.clip.Clip.{Clip}
use Rattle.edit_terms.specs.declared.clip.Source.{Source}
use Rattle.edit_terms.specs.declared.step.Work.{Work}
use Rattle.edit_terms.specs.declared.step.Work.TheVariants.{Fill, Stack, Move, Copy, Cut, Paste, Put, Undo, Redo}
use Rattle.edit_terms.specs.declared.step.Spec.{Spec}
use Rattle.edit_terms.specs.declared.step.Step.{Step}
use Rattle.edit_terms.specs.declared.step.Step.TheVariants.{Settled, Job, Refused}
use Rattle.edit_terms.specs.Area.{Area, volume, holds, position_of, chunk_of, chunks, is_world_box}
use Rattle.edit_terms.specs.Clipboard.{clip_box_of}
use Rattle.edit_terms.specs.Same.{same_content, content_decides}
use Rattle.edit_terms.specs.World.{World, air_content}
use Rattle.edit_terms.proofs.AreaLemmas.{block_at_place}
use Rattle.edit_terms.proofs.ClipboardLemmas.{cells_in_bounds}
use Rattle.run_terms.specs.Workload.{Workload}
use Rattle.run_terms.specs.Order.{lines_of, turns_of, player_of, command_number, source_of, ticket_from, ticket_of, step_of_command, step_of_ticket}
use Rattle.run_terms.specs.Change.{Change, content_of, change_at}
use Rattle.run_terms.specs.Effect.{latest_change, effect_of, effect_at, world_after_step}
use Rattle.run_terms.specs.Fold.{clipboard_of_edit, edits_taken, edits_taken_by, task_of, world_after, changes_of}
use Rattle.run_terms.specs.Limits.{IsWithinLimits}
use Rattle.run_terms.specs.Access.{is_chunk_of_box, chunks_of_boxes, boxes_written, boxes_written_by, with_edits_taken, chunks_written_by, chunks_written}
use Rattle.run_terms.proofs.Lists.{All-reverse, All-filter_map-range}
use Rattle.run_terms.proofs.ChangeLemmas.{find-changes_between}
use Rattle.run_terms.proofs.Earlier.{step_is_of_earlier}
use Rattle.run_terms.proofs.FoldLemmas.{follows_from_earlier, area-world_after, taken_earlier}
use Rattle.run_terms.proofs.LimitLemmas.{lines_within}
use Rattle.run_terms.proofs.Tickets.{turns_of-cons}
use Rattle.access_laws.specs.Locality.{is_among, is_in_chunks, ChangesLieInChunksWritten}
use Rattle.access_laws.proofs.Chunks.{any_of_range, chunk_below, some_box}
use Rattle.access_laws.proofs.Writes.{contra, or_parts, HasPositions, IsBounded, IsOfItself, stays_outside}
use Rattle.access_laws.proofs.Sessions.{IsSoundClip, IsSoundStep, TakesNone, step_is_sound}

-- ---- lists

-- no item passes the test
none_pass : {X : Type 0} (test : X → Bool) (xs : List X) → list_any test xs ≡ false → All (λ x. test x ≡ false) xs
none_pass test [] none = All-nil (λ x. test x ≡ false)
none_pass test (x ∷ xs) none = let parts = or_parts (test x) (list_any test xs) none in All-cons (λ y. test y ≡ false) x xs parts.0 (none_pass test xs parts.1)

-- a test of some item of lists joined
pub any_joined : {X Y : Type 0} (test : Y → Bool) (f : X → List Y) (xs : List X) → list_any test (flat_map f xs) ≡ list_any (λ x. list_any test (f x)) xs
any_joined test f [] = refl
any_joined test f (x ∷ xs) = ap (list_any test) (flat_map-cons f x xs) ∙ list_any-append test (f x) (flat_map f xs) ∙ ap (λ (b : Bool). list_any test (f x) || b) (any_joined test f xs)

nothing_found : {X : Type 0} (test : X → Bool) (xss : List (List X)) → All (λ xs. find test xs ≡ None) xss → find test (flat_map (λ xs. xs) xss) ≡ None
nothing_found test [] all = refl
nothing_found test (xs ∷ xss) all =
    let here = All-head (λ ys. find test ys ≡ None) xs xss all in
    let later = nothing_found test xss (All-tail (λ ys. find test ys ≡ None) xs xss all) in
    ap (find test) (flat_map-cons (λ ys. ys) xs xss) ∙ find-append test xs (flat_map (λ ys. ys) xss) ∙ rw (here, later) refl

drop_second : (a b : Bool) → b ≡ true → (a && b) ≡ false → a ≡ false
drop_second true b h none = sym h ∙ none
drop_second false b h none = refl

-- which chunks are among those of boxes
pub among_is : (area : Area) (boxes : List Area) (c : ℕ) → is_among (chunks_of_boxes area boxes) c ≡ (list_any (is_chunk_of_box area c) boxes && is_among (range_with_len 0 (chunks area)) c)
among_is area boxes c =
    any-filter_same (λ m. eqb m c) (λ chunk. list_any (is_chunk_of_box area chunk) boxes) (list_any (is_chunk_of_box area c) boxes)
    (λ m same. let e : m ≡ c = grind (arith) in ap (λ (chunk : ℕ). list_any (is_chunk_of_box area chunk) boxes) e) (range_with_len 0 (chunks area))

-- ---- the ticket of a command id has that id

pub record IsTicketOf (order : List ℕ) (p n t : ℕ) : Type 0 where
  pub player : get_or order t 0 ≡ p
  pub number : turns_of p (take t order) ≡ n
  pub inside : t < length order

ticket_behind : (p : ℕ) (ps : List ℕ) (player n m ticket : ℕ) (mine : Bool) → eqb p player ≡ mine → n ≡ cond mine 1 0 + m → IsTicketOf ps player m ticket → IsTicketOf (p ∷ ps) player n (suc ticket)
ticket_behind p ps player n m ticket mine is same h = record {
  player = h.player;
  number = turns_of-cons player p (take ticket ps) ∙ ap (λ (b : Bool). cond b 1 0 + turns_of player (take ticket ps)) is ∙ ap (λ (k : ℕ). cond mine 1 0 + k) h.number ∙ sym same;
  inside = omega (arith, h.inside);
}

pub ticket_is_of : (order : List ℕ) (player n : ℕ) → n < turns_of player order → IsTicketOf order player n (ticket_from order player n)
ticket_is_of [] player n few = absurd (omega (arith, few))
ticket_is_of (p ∷ ps) player zero few = by_test (eqb p player) refl (λ more. ticket_is_of ps player zero more)
  where
    by_test : (mine : Bool) → eqb p player ≡ mine → (0 < turns_of player ps → IsTicketOf ps player 0 (ticket_from ps player 0)) → IsTicketOf (p ∷ ps) player 0 (cond (eqb p player) 0 (suc (ticket_from ps player 0)))
    by_test true is later =
        let e : p ≡ player = grind (arith) in
        subst (λ (b : Bool). IsTicketOf (p ∷ ps) player 0 (cond b 0 (suc (ticket_from ps player 0)))) (sym is) (record { player = e; number = refl; inside = omega arith })
    by_test false is later =
        let more : 0 < turns_of player ps = omega (arith, few, turns_of-cons player p ps ∙ ap (λ (b : Bool). cond b 1 0 + turns_of player ps) is) in
        subst (λ (b : Bool). IsTicketOf (p ∷ ps) player 0 (cond b 0 (suc (ticket_from ps player 0)))) (sym is) (ticket_behind p ps player 0 0 (ticket_from ps player 0) false is (omega arith) (later more))
ticket_is_of (p ∷ ps) player (suc n) few = by_test (eqb p player) refl (λ more. ticket_is_of ps player n more) (λ more. ticket_is_of ps player (suc n) more)
  where
    by_test : (mine : Bool) → eqb p player ≡ mine → (n < turns_of player ps → IsTicketOf ps player n (ticket_from ps player n)) → (suc n < turns_of player ps → IsTicketOf ps player (suc n) (ticket_from ps player (suc n)))
        → IsTicketOf (p ∷ ps) player (suc n) (suc (ticket_from ps player (cond (eqb p player) n (suc n))))
    by_test true is mine other =
        let more : n < turns_of player ps = omega (arith, few, turns_of-cons player p ps ∙ ap (λ (b : Bool). cond b 1 0 + turns_of player ps) is) in
        subst (λ (b : Bool). IsTicketOf (p ∷ ps) player (suc n) (suc (ticket_from ps player (cond b n (suc n))))) (sym is) (ticket_behind p ps player (suc n) n (ticket_from ps player n) true is (omega arith) (mine more))
    by_test false is mine other =
        let more : suc n < turns_of player ps = omega (arith, few, turns_of-cons player p ps ∙ ap (λ (b : Bool). cond b 1 0 + turns_of player ps) is) in
        subst (λ (b : Bool). IsTicketOf (p ∷ ps) player (suc n) (suc (ticket_from ps player (cond b n (suc n))))) (sym is) (ticket_behind p ps player (suc n) (suc n) (ticket_from ps player (suc n)) false is (omega arith) (other more))

-- the command id of the ticket of a command id
pub source_of_ticket : (order : List ℕ) (player n t : ℕ) → IsTicketOf order player n t → source_of order t ≡ record { player = player; step = n }
source_of_ticket order player n t h =
    let e = h.player in
    let number : command_number order t ≡ n = ap (λ (p : ℕ). turns_of p (take t order)) e ∙ h.number in
    λ i. record { player = e i; step = number i }

-- a part of an order has no more turns than the whole
pub turns_of-take : (order : List ℕ) (player t : ℕ) → turns_of player (take t order) ≤ turns_of player order
turns_of-take order player t =
    let parts : turns_of player order ≡ turns_of player (take t order) + turns_of player (drop t order) =
    ap (turns_of player) (sym (take-append-drop t order)) ∙ sum_by-append (λ (p : ℕ). cond (eqb p player) 1 0) (take t order) (drop t order) in
    omega (arith, parts)

-- ---- the commands of a case within the limits

pub command_is_sound : (case : Workload) → IsWithinLimits case → (id : Source) → IsSoundStep id.player case.depth (lines_of case.scripts id.player) (step_of_command case id)
command_is_sound case limits id = step_is_sound id.player case.depth (lines_of case.scripts id.player) (lines_within case.scripts limits.each id.player) id.step

-- ---- the fold

module _ (case : Workload) (limits : IsWithinLimits case) (fits : is_world_box case.opening.area ≡ true) where
  abbrev area : Area
  area = case.opening.area

  -- the chunk of a place
  abbrev chunk_at : ℕ → ℕ
  chunk_at k = chunk_of area (position_of area k)

  -- the boxes that a player's command may change by itself
  abbrev boxes_at : ℕ → ℕ → List Area
  boxes_at player n = boxes_written_by area (step_of_command case (record { player = player; step = n }))

  among_all : (k : ℕ) → k < volume area → is_among (range_with_len 0 (chunks area)) (chunk_at k) ≡ true
  among_all k below =
      let held = (block_at_place area k fits below).held in
      any_of_range (λ m. eqb m (chunk_at k)) 0 (chunks area) (chunk_at k) (omega arith) (omega (arith, chunk_below area (position_of area k) held)) (eq-eqb (chunk_at k) (chunk_at k) refl)

  -- a place outside the chunks that a command writes lies in no chunk of the boxes of the command and of the edits that it takes
  out_of_boxes : (id : Source) (k : ℕ) → k < volume area → is_in_chunks area (chunks_written_by case id) k ≡ false
      → list_any (λ n. list_any (is_chunk_of_box area (chunk_at k)) (boxes_at id.player n)) (with_edits_taken case id) ≡ false
  out_of_boxes id k below out =
      let boxes = flat_map (boxes_at id.player) (with_edits_taken case id) in
      sym (any_joined (is_chunk_of_box area (chunk_at k)) (boxes_at id.player) (with_edits_taken case id))
      ∙ drop_second (list_any (is_chunk_of_box area (chunk_at k)) boxes) (is_among (range_with_len 0 (chunks area)) (chunk_at k)) (among_all k below) (sym (among_is area boxes (chunk_at k)) ∙ out)

  -- a place in no chunk of the boxes of a command that takes no edits lies outside the chunks that it writes
  out_of_chunks : (id : Source) (k : ℕ) → TakesNone id.player case.depth (lines_of case.scripts id.player) id.step → list_any (is_chunk_of_box area (chunk_at k)) (boxes_at id.player id.step) ≡ false
      → is_in_chunks area (chunks_written_by case id) k ≡ false
  out_of_chunks id k none out =
      let boxes = flat_map (boxes_at id.player) (with_edits_taken case id) in
      let joined : list_any (is_chunk_of_box area (chunk_at k)) boxes ≡ false =
      any_joined (is_chunk_of_box area (chunk_at k)) (boxes_at id.player) (with_edits_taken case id)
      ∙ ap (λ (edits : List ℕ). list_any (λ n. list_any (is_chunk_of_box area (chunk_at k)) (boxes_at id.player n)) (id.step ∷ edits)) none
      ∙ ap (λ (b : Bool). b || false) out in
      among_is area boxes (chunk_at k) ∙ ap (λ (b : Bool). b && is_among (range_with_len 0 (chunks area)) (chunk_at k)) joined

  module _ (order : List ℕ) where
    -- the ticket changes nothing outside the chunks that it writes
    abbrev pub StaysOutside : ℕ → Type 0
    StaysOutside t = (k : ℕ) → k < volume area → is_in_chunks area (chunks_written case order t) k ≡ false → content_of (world_after case order (suc t)) k ≡ content_of (world_after case order t) k

    copied_bounded : (t : ℕ) (clip : Option Clip) → IfSome clip (IsSoundClip (player_of order t) case.depth (lines_of case.scripts (player_of order t))) → IsBounded (world_after case order t).area clip (clipboard_of_edit order (world_after case order) clip)
    copied_bounded t None sound r some = absurd cc
    copied_bounded t (Some c) sound r some =
        let k = ticket_of order c.source in
        let same : (world_after case order k).area ≡ (world_after case order t).area = area-world_after case order k ∙ sym (area-world_after case order t) in
        subst (λ (a : Area). option_map_or (λ bounds. holds bounds r) (clip_box_of c a) false ≡ true) same (cells_in_bounds c (world_after case order k) sound.fits r some)

    -- nothing is found among the changes of a ticket that leaves the place
    pub unchanged : (t k : ℕ) → k < volume area → content_of (world_after case order (suc t)) k ≡ content_of (world_after case order t) k → find (λ change. eqb change.index k) (changes_of case order t) ≡ None
    unchanged t k below same =
        let old = world_after case order t in
        let new = world_after case order (suc t) in
        let inside : k < volume old.area = subst (λ (a : Area). k < volume a) (sym (area-world_after case order t)) below in
        find-changes_between old new k inside ∙ ap (λ (b : Bool). cond b None (Some (record { index = k; before = content_of old k; after = content_of new k }))) ((content_decides (content_of old k) (content_of new k)).1 (sym same))

    module _ (t : ℕ) (earlier : (s : ℕ) → s < t → StaysOutside s) (k : ℕ) (below : k < volume area) (out : is_in_chunks area (chunks_written case order t) k ≡ false) where
      abbrev player : ℕ
      player = player_of order t

      abbrev w : World
      w = world_after case order t

      -- none of the taken changes is of the place
      none_latest : (edits : List ℕ) → edits_taken_by (step_of_ticket case order t) ≡ edits → latest_change (map (λ n. changes_of case order (ticket_from order player n)) edits) k ≡ None
      none_latest edits is =
          let test : Change → Bool = λ change. eqb change.index k in
          let all : All (λ changes. find test changes ≡ None) (map (λ n. changes_of case order (ticket_from order player n)) edits) =
          All-map (λ changes. find test changes ≡ None) (λ n. changes_of case order (ticket_from order player n)) edits (subst (λ (xs : List ℕ). All (λ n. find test (changes_of case order (ticket_from order player n)) ≡ None) xs) is each) in
          nothing_found test (reverse (map (λ n. changes_of case order (ticket_from order player n)) edits)) (All-reverse (λ changes. find test changes ≡ None) (map (λ n. changes_of case order (ticket_from order player n)) edits) all)
        where
          each : All (λ n. find (λ change. eqb change.index k) (changes_of case order (ticket_from order player n)) ≡ None) (edits_taken_by (step_of_ticket case order t))
          each i d inside =
              let n = get_or (edits_taken_by (step_of_ticket case order t)) i d in
              let lines = lines_of case.scripts player in
              let s = ticket_from order player n in
              let before : n < turns_of player (take t order) = (step_is_of_earlier player case.depth lines (command_number order t)).taken i d inside in
              let few : n < turns_of player order = omega (arith, before, turns_of-take order player t) in
              let named = source_of_ticket order player n s (ticket_is_of order player n few) in
              let all_out = none_pass (λ m. list_any (is_chunk_of_box area (chunk_at k)) (boxes_at player m)) (edits_taken_by (step_of_ticket case order t))
              (or_parts (list_any (is_chunk_of_box area (chunk_at k)) (boxes_at player (command_number order t))) (list_any (λ m. list_any (is_chunk_of_box area (chunk_at k)) (boxes_at player m)) (edits_taken_by (step_of_ticket case order t))) (out_of_boxes (source_of order t) k below out)).1 in
              let own = out_of_chunks (record { player = player; step = n }) k ((command_is_sound case limits (source_of order t)).taken i d inside) (all_out i d inside) in
              unchanged s k below (earlier s (taken_earlier case order t i d inside) k below (subst (λ (id : Source). is_in_chunks area (chunks_written_by case id) k ≡ false) (sym named) own))

      -- the place lies in none of the boxes that the command may change by itself
      out_of_own : list_any (λ box. holds box (position_of area k)) (boxes_written_by area (step_of_ticket case order t)) ≡ false
      out_of_own =
          let held = (block_at_place area k fits below).held in
          contra (list_any (λ box. holds box (position_of area k)) (boxes_written_by area (step_of_ticket case order t))) (list_any (is_chunk_of_box area (chunk_at k)) (boxes_at player (command_number order t)))
          (some_box area (boxes_written_by area (step_of_ticket case order t)) (position_of area k) held)
          (or_parts (list_any (is_chunk_of_box area (chunk_at k)) (boxes_at player (command_number order t))) (list_any (λ m. list_any (is_chunk_of_box area (chunk_at k)) (boxes_at player m)) (edits_taken_by (step_of_ticket case order t))) (out_of_boxes (source_of order t) k below out)).0

      of_itself : (spec : Spec) → step_of_ticket case order t ≡ Job spec → (work : Work) → spec.work ≡ work → IsOfItself work → effect_of work (task_of case order t (world_after case order) spec) w k ≡ content_of w k
      of_itself spec is work same own =
          let sound = subst (λ (s : Step). IsSoundStep player case.depth (lines_of case.scripts player) s) is (command_is_sound case limits (source_of order t)) in
          let away = subst (λ (s : Step). list_any (λ box. holds box (position_of area k)) (boxes_written_by area s) ≡ false) is out_of_own in
          let here = subst (λ (made : Work). list_any (λ box. holds box (position_of area k)) (boxes_written area spec.clip made) ≡ false) same away in
          stays_outside (task_of case order t (world_after case order) spec) w k spec.clip work own (subst HasPositions same sound.positions) (copied_bounded t spec.clip sound.clip)
          (subst (λ (a : Area). list_any (λ box. holds box (position_of a k)) (boxes_written a spec.clip work) ≡ false) (sym (area-world_after case order t)) here)

      by_work : (spec : Spec) → step_of_ticket case order t ≡ Job spec → (work : Work) → spec.work ≡ work → effect_of work (task_of case order t (world_after case order) spec) w k ≡ content_of w k
      by_work spec is (Undo edits) same =
          ap (λ (taken : Work). option_map_or (λ (c : Change). c.before) (latest_change (map (λ n. changes_of case order (ticket_from order player n)) (edits_taken taken)) k) (content_of w k)) same
          ∙ ap (λ (o : Option Change). option_map_or (λ (c : Change). c.before) o (content_of w k)) (none_latest edits (ap edits_taken_by is ∙ ap edits_taken same))
      by_work spec is (Redo edits) same =
          ap (λ (taken : Work). option_map_or (λ (c : Change). c.after) (latest_change (map (λ n. changes_of case order (ticket_from order player n)) (edits_taken taken)) k) (content_of w k)) same
          ∙ ap (λ (o : Option Change). option_map_or (λ (c : Change). c.after) o (content_of w k)) (none_latest edits (ap edits_taken_by is ∙ ap edits_taken same))
      by_work spec is (Fill region mask pattern) same = of_itself spec is (Fill region mask pattern) same tt
      by_work spec is (Stack from count to) same = of_itself spec is (Stack from count to) same tt
      by_work spec is (Move from count to) same = of_itself spec is (Move from count to) same tt
      by_work spec is (Copy from) same = refl
      by_work spec is (Cut from) same = of_itself spec is (Cut from) same tt
      by_work spec is (Paste place skip_air) same = of_itself spec is (Paste place skip_air) same tt
      by_work spec is (Put at state) same = of_itself spec is (Put at state) same tt

      by_step : (step : Step) → step_of_ticket case order t ≡ step → content_of (world_after_step (task_of case order t (world_after case order)) step w) k ≡ content_of w k
      by_step Settled is = refl
      by_step (Refused refusal) is = refl
      by_step (Job spec) is =
          let inside : k < volume w.area = subst (λ (a : Area). k < volume a) (sym (area-world_after case order t)) below in
          get_or-map-range_with_len (effect_at (task_of case order t (world_after case order) spec) w) 0 (volume w.area) k k air_content inside (omega arith) ∙ by_work spec is spec.work refl

      stays_here : content_of (world_after case order (suc t)) k ≡ content_of w k
      stays_here = ap (λ (v : World). content_of v k) (follows_from_earlier case order t) ∙ by_step (step_of_ticket case order t) refl

    stays_before : (bound t : ℕ) → t < bound → StaysOutside t
    stays_before zero t few = absurd (omega (arith, few))
    stays_before (suc bound) t few = λ k below out. stays_here t (λ s less. stays_before bound s (omega (arith, few, less))) k below out

    -- a ticket changes nothing outside the chunks that it writes
    pub stays : (t : ℕ) → StaysOutside t
    stays t = stays_before (suc t) t (omega arith)

    -- every change lies in a chunk that the ticket writes
    pub changes_lie : (t : ℕ) → ChangesLieInChunksWritten case order t
    changes_lie t =
        let old = world_after case order t in
        let new = world_after case order (suc t) in
        All-filter_map-range (λ change. is_in_chunks area (chunks_written case order t) change.index ≡ true) (change_at old new) 0 (volume old.area) (volume old.area) (omega arith) (λ k inside.
        by_test k (is_in_chunks area (chunks_written case order t) k) refl (λ out. stays t k (subst (λ (a : Area). k < volume a) (area-world_after case order t) inside) out) (same_content (content_of old k) (content_of new k)) refl)
      where
        by_test : (k : ℕ) (b : Bool) → is_in_chunks area (chunks_written case order t) k ≡ b
            → (is_in_chunks area (chunks_written case order t) k ≡ false → content_of (world_after case order (suc t)) k ≡ content_of (world_after case order t) k)
            → (same : Bool) → same_content (content_of (world_after case order t) k) (content_of (world_after case order (suc t)) k) ≡ same
            → IfSome {T = Change} (cond same None (Some (record { index = k; before = content_of (world_after case order t) k; after = content_of (world_after case order (suc t)) k }))) (λ change. is_in_chunks area (chunks_written case order t) change.index ≡ true)
        by_test k b is keeps true same = tt
        by_test k true is keeps false same = is
        by_test k false is keeps false same =
            let equal : same_content (content_of (world_after case order t) k) (content_of (world_after case order (suc t)) k) ≡ true = (content_decides (content_of (world_after case order t) k) (content_of (world_after case order (suc t)) k)).1 (sym (keeps is)) in
            absurd cc
