-- Undo and redo: what the fold leaves at a position, and what follows where little happened between.
use Rattle.std.proofs.Common.{◌≡◌, ℕ, zero, suc, ◌<◌, ◌≤◌, eqb, Bool, true, false, cond, not, List, [], ◌∷◌, length, map, Option, Some, None, refl, sym, ap, ◌∙◌, subst, inl, inr, arith}
use Rattle.std.specs.Prelude.{All, filter_map, option_map}
use Rattle.std.specs.Option.{option_map_or}
use Rattle.std.specs.List.{range_with_len, list_any}
use Rattle.std.proofs.lemmas.Bool.{cases_lt, not-false}
use Rattle.std.proofs.lemmas.List.{ext_get_or}
use Rattle.std.proofs.lemmas.List.FromFn.{get_or-map-range_with_len}
use Rattle.std.proofs.lemmas.Option.{same_Some}
use Rattle.edit_terms.specs.declared.step.Work.{Work}
use Rattle.edit_terms.specs.declared.step.Work.TheVariants.{Undo, Redo}
use Rattle.edit_terms.specs.declared.step.Spec.{Spec}
use Rattle.edit_terms.specs.declared.step.Step.{Step}
use Rattle.edit_terms.specs.declared.step.Step.TheVariants.{Settled, Job, Refused}
use Rattle.edit_terms.specs.Area.{Area, volume}
use Rattle.edit_terms.specs.Same.{same_content, content_decides}
use Rattle.edit_terms.specs.World.{BlockContent, World, IsWorld, air_content}
use Rattle.run_terms.specs.Workload.{Workload}
use Rattle.run_terms.specs.Order.{player_of, ticket_from, step_of_ticket}
use Rattle.run_terms.specs.Change.{Change, content_of, change_at}
use Rattle.run_terms.specs.Effect.{latest_change, effect_of, effect_at, world_after_step}
use Rattle.run_terms.specs.Fold.{edits_taken, edits_taken_by, task_of, world_after, changes_of}
use Rattle.run_terms.specs.Undo.{work_of_step, Undoes, Redoes, is_changed, UndoRestores, RedoRestores, IsUnchangedBetween, NothingChangesBetween, inverse_change, UndoInverts}
use Rattle.run_terms.proofs.FoldLemmas.{follows_from_earlier, taken_earlier, area-world_after, whole-world_after}
use Rattle.run_terms.proofs.ChangeLemmas.{change_of, latest_change-one, changed-differs, filter_map-image}

-- the edits that a job of this work takes
edits_of_work : (step : Step) (work : Work) → work_of_step step ≡ Some work → edits_taken_by step ≡ edits_taken work
edits_of_work (Job spec) work is = ap edits_taken (same_Some spec.work work is)
edits_of_work Settled work is = absurd cc
edits_of_work (Refused refusal) work is = absurd cc

-- a change's content where the contents differ, and another one where they don't
picked : (pick : Change → BlockContent) (i : ℕ) (same : Bool) (before after other : BlockContent)
    → option_map_or pick (cond same None (Some (change_of i before after))) other ≡ cond (not same) (pick (change_of i before after)) other
picked pick i true before after other = refl
picked pick i false before after other = refl

module _ (case : Workload) (order : List ℕ) where
  -- the content at a place after so many tickets
  abbrev at : ℕ → ℕ → BlockContent
  at t i = content_of (world_after case order t) i

  abbrev size : ℕ
  size = volume case.opening.area

  -- the ticket leaves the place as it was
  abbrev is_same : ℕ → ℕ → Bool
  is_same t i = same_content (at t i) (at (suc t) i)

  inside : (t i : ℕ) → i < size → i < volume (world_after case order t).area
  inside t i within = subst (λ (a : Area). i < volume a) (sym (area-world_after case order t)) within

  changed : (t i : ℕ) → i < size → is_changed case order t i ≡ not (is_same t i)
  changed t i within = changed-differs (world_after case order t) (world_after case order (suc t)) i (inside t i within)

  -- the content at a place after a job
  after_work : (t : ℕ) (work : Work) → work_of_step (step_of_ticket case order t) ≡ Some work → (i : ℕ) → i < size
      → (spec : Spec) × (at (suc t) i ≡ effect_of work (record (task_of case order t (world_after case order) spec) { taken = map (λ n. changes_of case order (ticket_from order (player_of order t) n)) (edits_taken work) }) (world_after case order t) i)
  after_work t work is i within = by_step (step_of_ticket case order t) refl is
    where
      by_step : (step : Step) → step_of_ticket case order t ≡ step → work_of_step step ≡ Some work
          → (spec : Spec) × (at (suc t) i ≡ effect_of work (record (task_of case order t (world_after case order) spec) { taken = map (λ n. changes_of case order (ticket_from order (player_of order t) n)) (edits_taken work) }) (world_after case order t) i)
      by_step (Job spec) step same = (
        spec,
        ap (λ (w : World). content_of w i) (follows_from_earlier case order t)
            ∙ ap (λ (s : Step). content_of (world_after_step (task_of case order t (world_after case order)) s (world_after case order t)) i) step
            ∙ get_or-map-range_with_len (effect_at (task_of case order t (world_after case order) spec) (world_after case order t)) 0 (volume (world_after case order t).area) i i air_content (inside t i within) (omega arith)
            ∙ ap (λ (k : Work). effect_of k (record (task_of case order t (world_after case order) spec) { taken = map (λ n. changes_of case order (ticket_from order (player_of order t) n)) (edits_taken k) }) (world_after case order t) i) (same_Some spec.work work same),
      )
      by_step Settled step same = absurd cc
      by_step (Refused refusal) step same = absurd cc

  module _ (edit : ℕ) where
    -- after an undo of the edit alone
    pub after_undo : (undo : ℕ) → Undoes case order undo edit → (i : ℕ) → i < size → at (suc undo) i ≡ cond (not (is_same edit i)) (at edit i) (at undo i)
    after_undo undo h i within =
        (after_work undo (Undo (h.number ∷ [])) h.work i within).1
        ∙ ap (λ (e : ℕ). option_map_or (λ (c : Change). c.before) (latest_change (changes_of case order e ∷ []) i) (at undo i)) h.ticket
        ∙ ap (λ (o : Option Change). option_map_or (λ (c : Change). c.before) o (at undo i)) (latest_change-one (world_after case order edit) (world_after case order (suc edit)) i (inside edit i within))
        ∙ picked (λ c. c.before) i (is_same edit i) (at edit i) (at (suc edit) i) (at undo i)

    -- after a redo of the edit alone
    pub after_redo : (redo : ℕ) → Redoes case order redo edit → (i : ℕ) → i < size → at (suc redo) i ≡ cond (not (is_same edit i)) (at (suc edit) i) (at redo i)
    after_redo redo h i within =
        (after_work redo (Redo (h.number ∷ [])) h.work i within).1
        ∙ ap (λ (e : ℕ). option_map_or (λ (c : Change). c.after) (latest_change (changes_of case order e ∷ []) i) (at redo i)) h.ticket
        ∙ ap (λ (o : Option Change). option_map_or (λ (c : Change). c.after) o (at redo i)) (latest_change-one (world_after case order edit) (world_after case order (suc edit)) i (inside edit i within))
        ∙ picked (λ c. c.after) i (is_same edit i) (at edit i) (at (suc edit) i) (at redo i)

    by_changed : (i : ℕ) → i < size → (b : Bool) → is_changed case order edit i ≡ b → (now old other : BlockContent) → now ≡ cond (not (is_same edit i)) old other → now ≡ cond b old other
    by_changed i within b is now old other e = e ∙ ap (λ (c : Bool). cond c old other) (sym (changed edit i within) ∙ is)

    pub undo_restores : (undo : ℕ) → Undoes case order undo edit → UndoRestores case order undo edit
    undo_restores undo h = record {
      restored = λ i within is. by_changed i within true is (at (suc undo) i) (at edit i) (at undo i) (after_undo undo h i within);
      others = λ i within is. by_changed i within false is (at (suc undo) i) (at edit i) (at undo i) (after_undo undo h i within);
    }

    pub redo_restores : (redo : ℕ) → Redoes case order redo edit → RedoRestores case order redo edit
    redo_restores redo h = record {
      restored = λ i within is. by_changed i within true is (at (suc redo) i) (at (suc edit) i) (at redo i) (after_redo redo h i within);
      others = λ i within is. by_changed i within false is (at (suc redo) i) (at (suc edit) i) (at redo i) (after_redo redo h i within);
    }

    -- an undone edit lies before the undo
    edit_before : (undo : ℕ) → Undoes case order undo edit → edit < undo
    edit_before undo h =
        let all = subst (λ (edits : List ℕ). All (λ n. ticket_from order (player_of order undo) n < undo) edits) (edits_of_work (step_of_ticket case order undo) (Undo (h.number ∷ [])) h.work) (taken_earlier case order undo) in
        subst (λ (e : ℕ). e < undo) h.ticket (all 0 0 (omega arith))

  -- a place that no ticket between changes stays as it was
  same_contents : (t i : ℕ) → i < size → is_changed case order t i ≡ false → at t i ≡ at (suc t) i
  same_contents t i within is = (content_decides (at t i) (at (suc t) i)).0 (not-false (is_same t i) (sym (changed t i within) ∙ is))

  steady : (first last i : ℕ) → i < size → IsUnchangedBetween case order first last i → (t : ℕ) → first < t → t ≤ last → at t i ≡ at (suc first) i
  steady first last i within still zero low high = absurd (omega (arith, low))
  steady first last i within still (suc t) low high = elim (cases_lt first t) [
    | inl below ↦ sym (same_contents t i within (still t below (omega (arith, high)))) ∙ steady first last i within still t below (omega (arith, high))
    | inr above ↦ let e : t ≡ first = omega (arith, low, above) in ap (λ (n : ℕ). at (suc n) i) e
  ]

  unchanged : (first last : ℕ) → NothingChangesBetween case order first last → (i : ℕ) → IsUnchangedBetween case order first last i
  unchanged first last nothing i = λ t low high. ap (λ (changes : List Change). list_any (λ change. eqb change.index i) changes) (nothing t low high)

  -- two worlds of the fold with the same contents are the same
  same_worlds : (s t : ℕ) → IsWorld case.opening → ((i : ℕ) → i < size → at s i ≡ at t i) → world_after case order s ≡ world_after case order t
  same_worlds s t whole each =
      let areas : (world_after case order s).area ≡ (world_after case order t).area = area-world_after case order s ∙ sym (area-world_after case order t) in
      let long : length (world_after case order s).contents ≡ size = whole-world_after case order s whole ∙ ap volume (area-world_after case order s) in
      let wide : length (world_after case order t).contents ≡ size = whole-world_after case order t whole ∙ ap volume (area-world_after case order t) in
      let contents : (world_after case order s).contents ≡ (world_after case order t).contents = ext_get_or air_content (world_after case order s).contents (world_after case order t).contents (long ∙ sym wide) (λ i within. each i (omega (arith, within, long))) in
      ap (λ (a : Area). record { area = a; contents = (world_after case order s).contents }) areas ∙ ap (λ (cs : List BlockContent). record { area = (world_after case order t).area; contents = cs }) contents

  module _ (undo edit : ℕ) (h : Undoes case order undo edit) where
    -- the change of an undo where nothing came between
    undo_change : (i : ℕ) → i < size → (is_changed case order edit i ≡ true → IsUnchangedBetween case order edit undo i)
        → change_at (world_after case order undo) (world_after case order (suc undo)) i ≡ option_map inverse_change (change_at (world_after case order edit) (world_after case order (suc edit)) i)
    undo_change i within still = by_test (is_same edit i) refl
      where
        by_test : (same : Bool) → is_same edit i ≡ same
            → change_at (world_after case order undo) (world_after case order (suc undo)) i ≡ option_map inverse_change (cond same None (Some (change_of i (at edit i) (at (suc edit) i))))
        by_test true is =
            let stays : at (suc undo) i ≡ at undo i = after_undo edit undo h i within ∙ ap (λ (b : Bool). cond (not b) (at edit i) (at undo i)) is in
            ap (λ (b : Bool). cond b None (Some (change_of i (at undo i) (at (suc undo) i)))) ((content_decides (at undo i) (at (suc undo) i)).1 (sym stays))
        by_test false is =
            let back : at (suc undo) i ≡ at edit i = after_undo edit undo h i within ∙ ap (λ (b : Bool). cond (not b) (at edit i) (at undo i)) is in
            let kept : at undo i ≡ at (suc edit) i = steady edit undo i within (still (changed edit i within ∙ ap not is)) undo (edit_before edit undo h) (omega arith) in
            ap (λ (c : BlockContent). cond (same_content c (at (suc undo) i)) None (Some (change_of i c (at (suc undo) i)))) kept
            ∙ ap (λ (c : BlockContent). cond (same_content (at (suc edit) i) c) None (Some (change_of i (at (suc edit) i) c))) back
            ∙ differ (same_content (at (suc edit) i) (at edit i)) refl is
          where
            differ : (b : Bool) → same_content (at (suc edit) i) (at edit i) ≡ b → is_same edit i ≡ false
                → cond b None (Some (change_of i (at (suc edit) i) (at edit i))) ≡ Some (change_of i (at (suc edit) i) (at edit i))
            differ false same other = refl
            differ true same other =
                let equal : is_same edit i ≡ true = (content_decides (at edit i) (at (suc edit) i)).1 (sym ((content_decides (at (suc edit) i) (at edit i)).0 same)) in
                absurd cc

    inverse_changes : ((i : ℕ) → is_changed case order edit i ≡ true → IsUnchangedBetween case order edit undo i) → changes_of case order undo ≡ map inverse_change (changes_of case order edit)
    inverse_changes still =
        ap (λ (a : Area). filter_map (change_at (world_after case order undo) (world_after case order (suc undo))) (range_with_len 0 (volume a))) (area-world_after case order undo)
        ∙ filter_map-image (change_at (world_after case order undo) (world_after case order (suc undo))) (change_at (world_after case order edit) (world_after case order (suc edit))) inverse_change 0 size size (omega arith) (λ i within. undo_change i within (still i))
        ∙ ap (λ (a : Area). map inverse_change (filter_map (change_at (world_after case order edit) (world_after case order (suc edit))) (range_with_len 0 (volume a)))) (sym (area-world_after case order edit))

    -- where nothing changed between, the undo leaves each content from before the edit
    undone_content : NothingChangesBetween case order edit undo → (i : ℕ) → i < size → at (suc undo) i ≡ at edit i
    undone_content nothing i within = after_undo edit undo h i within ∙ by_test (is_same edit i) refl
      where
        by_test : (same : Bool) → is_same edit i ≡ same → cond (not same) (at edit i) (at undo i) ≡ at edit i
        by_test false is = refl
        by_test true is =
            steady edit undo i within (unchanged edit undo nothing i) undo (edit_before edit undo h) (omega arith)
            ∙ sym ((content_decides (at edit i) (at (suc edit) i)).0 is)

    redone_content : NothingChangesBetween case order edit undo → (redo : ℕ) → undo < redo → Redoes case order redo edit → NothingChangesBetween case order undo redo
        → (i : ℕ) → i < size → at (suc redo) i ≡ at (suc edit) i
    redone_content nothing redo later again still i within = after_redo edit redo again i within ∙ by_test (is_same edit i) refl
      where
        by_test : (same : Bool) → is_same edit i ≡ same → cond (not same) (at (suc edit) i) (at redo i) ≡ at (suc edit) i
        by_test false is = refl
        by_test true is =
            steady undo redo i within (unchanged undo redo still i) redo later (omega arith)
            ∙ undone_content nothing i within ∙ (content_decides (at edit i) (at (suc edit) i)).0 is

    pub undo_inverts : UndoInverts case order undo edit
    undo_inverts = record {
      inverse = inverse_changes;
      undone = λ whole nothing. same_worlds (suc undo) edit whole (undone_content nothing);
      redone = λ whole nothing redo later again still. same_worlds (suc redo) (suc edit) whole (redone_content nothing redo later again still);
    }
