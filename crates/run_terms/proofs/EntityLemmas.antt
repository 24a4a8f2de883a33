-- Each content that a command puts has an entity of the opening world or none: contents come from worlds before the
-- ticket, turned or with another state, or have no entity.
use Rattle.std.proofs.Common.{◌≡◌, ℕ, zero, suc, ◌<◌, ◌≤◌, Bool, true, false, cond, not, ◌&&◌, List, get_or, Option, Some, None, refl, sym, ◌∙◌, subst, inl, inr, arith}
use Rattle.std.specs.Prelude.{All, IfSome, reverse, find, flat_map, unwrap_or, bytes_eq}
use Rattle.std.specs.Option.{option_map_or}
use Rattle.std.proofs.lemmas.Bool.{cases_lt}
use Rattle.std.proofs.lemmas.List.FromFn.{get_or-map-range_with_len}
use Rattle.std.proofs.lemmas.List.Elements.{All-map, All-weaker}
use Rattle.std.proofs.lemmas.Option.{IfSome_then}
use Rattle.edit_terms.specs.declared.pos.Pos.{Pos}
use Rattle.edit_terms.specs.declared.clip.Clip.{Clip}
use Rattle.edit_terms.specs.declared.pattern.Entry.{Entry}
use Rattle.edit_terms.specs.declared.pattern.Pattern.{Pattern}
use Rattle.edit_terms.specs.declared.pattern.Value.{Value}
use Rattle.edit_terms.specs.declared.pattern.Value.TheVariants.{Fixed, Rename, Put as put_value, RenamePut, Clipboard}
use Rattle.edit_terms.specs.declared.step.Work.{Work}
use Rattle.edit_terms.specs.declared.step.Work.TheVariants.{Fill, Stack, Move, Copy, Cut, Paste, Put, Undo, Redo}
use Rattle.edit_terms.specs.declared.step.Step.{Step}
use Rattle.edit_terms.specs.declared.step.Step.TheVariants.{Settled, Job, Refused}
use Rattle.edit_terms.specs.Area.{Area, holds, index_of, position_of, volume}
use Rattle.edit_terms.specs.Region.{is_selected}
use Rattle.edit_terms.specs.StateText.{State, is_air, air}
use Rattle.edit_terms.specs.Transform.{turned_content}
use Rattle.edit_terms.specs.Clipboard.{CopiedBlocks, no_blocks, clipboard_of, copied_from, tile_of, relative_to}
use Rattle.edit_terms.specs.Draw.{draw_word, pattern_use}
use Rattle.edit_terms.specs.Pattern.{chosen_entry, restated, overridden, placed, pattern_value}
use Rattle.edit_terms.specs.Grid.{is_same_pos}
use Rattle.edit_terms.specs.Same.{same_content}
use Rattle.edit_terms.specs.World.{EntityTags, BlockContent, World, content_at, without_entity, air_content}
use Rattle.edit_terms.proofs.AreaLemmas.{held_below}
use Rattle.run_terms.specs.Workload.{Workload}
use Rattle.run_terms.specs.Order.{player_of, ticket_from, ticket_of, step_of_ticket}
use Rattle.run_terms.specs.Change.{Change, content_of, change_at, changes_between}
use Rattle.run_terms.specs.Effect.{Task, passes_global, is_filled, is_source, stacked_from, latest_change, effect_of, effect_at, world_with, world_after_step}
use Rattle.run_terms.specs.Fold.{edits_taken, edits_taken_by, task_of, world_after, changes_of}
use Rattle.run_terms.specs.Entities.{HasEntity, EntitiesComeFromTheOpeningWorld}
use Rattle.run_terms.proofs.Lists.{All-reverse, All-flat_map, All-filter_map-range, IfSome-find}
use Rattle.run_terms.proofs.Earlier.{clip_of}
use Rattle.run_terms.proofs.FoldLemmas.{follows_from_earlier, taken_earlier, clip_earlier, area-world_after}

-- ---- contents

module _ (opening : World) where
  -- the content's entity, if it has one, is one of the opening world
  abbrev pub IsFromOpening : BlockContent → Type 0
  IsFromOpening c = (e : EntityTags) → c.entity ≡ Some e → HasEntity opening e

  -- so is each entity of the world
  abbrev pub IsWorldFromOpening : World → Type 0
  IsWorldFromOpening w = (index : ℕ) → index < volume w.area → IsFromOpening (content_of w index)

  bare_content : (s : State) → IsFromOpening (without_entity s)
  bare_content s = λ e is. absurd cc

  by_test : (b : Bool) (c d : BlockContent) → IsFromOpening c → IsFromOpening d → IsFromOpening (cond b c d)
  by_test true c d p q = p
  by_test false c d p q = q

  by_option : {X : Type 0} (f : X → BlockContent) (o : Option X) (d : BlockContent) → IfSome o (λ x. IsFromOpening (f x)) → IsFromOpening d → IsFromOpening (option_map_or f o d)
  by_option f None d p q = q
  by_option f (Some x) d p q = p

  read : (w : World) → IsWorldFromOpening w → (p : Pos) → IsFromOpening (content_at w p)
  read w from p = by_box (holds w.area p) refl
    where
      by_box : (held : Bool) → holds w.area p ≡ held → IsFromOpening (cond held (get_or w.contents (index_of w.area p) air_content) air_content)
      by_box true is = from (index_of w.area p) (held_below w.area p is)
      by_box false is = λ e is. absurd cc

  restated_content : (old : BlockContent) (s : State) → IsFromOpening old → IsFromOpening (restated old s)
  restated_content old s from = kept (bytes_eq s.name old.state.name)
    where
      kept : (same : Bool) → IsFromOpening (record { state = s; entity = cond same old.entity None })
      kept true = from
      kept false = λ e is. absurd cc

  -- what a clipboard has comes from the opening world
  abbrev pub IsCopyFromOpening : CopiedBlocks → Type 0
  IsCopyFromOpening copied = (r : Pos) → IfSome (copied.at r) IsFromOpening

  tile : (copied : CopiedBlocks) → IsCopyFromOpening copied → (p : Pos) (old : BlockContent) → IsFromOpening old → (bounds : Option Area)
      → IsFromOpening (option_map_or (λ b. unwrap_or (copied.at (tile_of b p)) old) bounds old)
  tile copied from p old own None = own
  tile copied from p old own (Some bounds) = there (copied.at (tile_of bounds p)) (from (tile_of bounds p))
    where
      there : (found : Option BlockContent) → IfSome found IsFromOpening → IsFromOpening (unwrap_or found old)
      there None is = own
      there (Some c) is = is

  value_content : (copied : CopiedBlocks) → IsCopyFromOpening copied → (p : Pos) (value : Value) (old : BlockContent) → IsFromOpening old → IsFromOpening (placed copied p value old)
  value_content copied from p (Fixed state) old own = bare_content state
  value_content copied from p (Rename name) old own = restated_content old (record { name = name; properties = old.state.properties }) own
  value_content copied from p (put_value properties) old own = restated_content old (overridden old.state old.state.name properties) own
  value_content copied from p (RenamePut state) old own = restated_content old (overridden old.state state.name state.properties) own
  value_content copied from p Clipboard old own = tile copied from p old own copied.bounds

  pattern_content : (pattern : Pattern) (copied : CopiedBlocks) → IsCopyFromOpening copied → (seed ticket : ℕ) (p : Pos) (old : BlockContent) → IsFromOpening old
      → IsFromOpening (pattern_value pattern copied seed ticket p old)
  pattern_content pattern copied from seed ticket p old own =
      by_option (λ (e : Entry). placed copied p e.value old) (chosen_entry (draw_word seed ticket pattern_use p) pattern.entries) old
      (each (chosen_entry (draw_word seed ticket pattern_use p) pattern.entries)) own
    where
      each : (chosen : Option Entry) → IfSome chosen (λ (e : Entry). IsFromOpening (placed copied p e.value old))
      each None = tt
      each (Some e) = value_content copied from p e.value old own

  -- both contents of a change come from the opening world
  pub record IsChangeFromOpening (change : Change) : Type 0 where
    pub before : IsFromOpening change.before
    pub after : IsFromOpening change.after

  -- what a job reads beside the world comes from the opening world
  pub record IsTaskFromOpening (task : Task) : Type 0 where
    pub copied : IsCopyFromOpening task.copied
    pub taken : All (λ changes. All IsChangeFromOpening changes) task.taken

  latest_content : (taken : List (List Change)) (index : ℕ) → All (λ changes. All IsChangeFromOpening changes) taken → IfSome (latest_change taken index) IsChangeFromOpening
  latest_content taken index all =
      IfSome-find IsChangeFromOpening _ (flat_map (λ changes. changes) (reverse taken))
      (All-flat_map IsChangeFromOpening (reverse taken) (All-reverse (λ changes. All IsChangeFromOpening changes) taken all))

  -- ---- effects

  module _ (task : Task) (w : World) (from : IsWorldFromOpening w) (given : IsTaskFromOpening task) (index : ℕ) (within : index < volume w.area) where
    own : IsFromOpening (content_of w index)
    own = from index within

    effect_content : (work : Work) → IsFromOpening (effect_of work task w index)
    effect_content (Fill region mask pattern) =
        by_test (is_filled region mask task w (position_of w.area index)) (pattern_value pattern task.copied task.seed task.ticket (position_of w.area index) (content_of w index)) (content_of w index)
        (pattern_content pattern task.copied given.copied task.seed task.ticket (position_of w.area index) (content_of w index) own) own
    effect_content (Stack selection count to) =
        by_test (passes_global task w (position_of w.area index)) _ (content_of w index)
        (by_option (content_at w) (find (is_source selection w) (stacked_from selection count to (position_of w.area index))) (content_of w index) (each (find (is_source selection w) (stacked_from selection count to (position_of w.area index)))) own) own
      where
        each : (found : Option Pos) → IfSome found (λ q. IsFromOpening (content_at w q))
        each None = tt
        each (Some q) = read w from q
    effect_content (Move selection count to) =
        by_test (not (passes_global task w (position_of w.area index))) (content_of w index) _ own
        (by_test (is_source selection w _) (content_at w _) _ (read w from _) (by_test (is_selected selection (position_of w.area index)) air_content (content_of w index) (bare_content air) own))
    effect_content (Copy selection) = own
    effect_content (Cut selection) = by_test (is_selected selection (position_of w.area index) && passes_global task w (position_of w.area index)) air_content (content_of w index) (bare_content air) own
    effect_content (Paste place skip_air) =
        by_option (λ (c : BlockContent). cond (passes_global task w (position_of w.area index) && not (skip_air && is_air c.state)) c (content_of w index)) (task.copied.at (relative_to place (position_of w.area index))) (content_of w index)
        (IfSome_then (task.copied.at (relative_to place (position_of w.area index))) (given.copied (relative_to place (position_of w.area index))) (λ c p. by_test (passes_global task w (position_of w.area index) && not (skip_air && is_air c.state)) c (content_of w index) p own)) own
    effect_content (Put at state) = by_test (is_same_pos at (position_of w.area index)) (without_entity state) (content_of w index) (bare_content state) own
    effect_content (Undo edits) =
        by_option (λ (c : Change). c.before) (latest_change task.taken index) (content_of w index)
        (IfSome_then (latest_change task.taken index) (latest_content task.taken index given.taken) (λ c p. p.before)) own
    effect_content (Redo edits) =
        by_option (λ (c : Change). c.after) (latest_change task.taken index) (content_of w index)
        (IfSome_then (latest_change task.taken index) (latest_content task.taken index given.taken) (λ c p. p.after)) own

  world_with_from : (task : Task) (w : World) → IsWorldFromOpening w → IsTaskFromOpening task → IsWorldFromOpening (world_with task w)
  world_with_from task w from given = λ index within.
      subst IsFromOpening (sym (get_or-map-range_with_len (effect_at task w) 0 (volume w.area) index index air_content within (omega arith)))
      (effect_content task w from given index within task.spec.work)

  changes_from : (old new : World) → IsWorldFromOpening old → IsWorldFromOpening new → new.area ≡ old.area → All IsChangeFromOpening (changes_between old new)
  changes_from old new before after same =
      All-filter_map-range IsChangeFromOpening (change_at old new) 0 (volume old.area) (volume old.area) (omega arith)
      (λ k within. at_place k within (same_content (content_of old k) (content_of new k)))
    where
      at_place : (k : ℕ) → k < volume old.area → (equal : Bool) → IfSome (cond equal None (Some (record { index = k; before = content_of old k; after = content_of new k }))) IsChangeFromOpening
      at_place k within true = tt
      at_place k within false = record { before = before k within; after = after k (subst (λ (a : Area). k < volume a) (sym same) within) }

  copy_from : (c : Clip) (w : World) → IsWorldFromOpening w → IsCopyFromOpening (clipboard_of c w)
  copy_from c w from = λ r. at_source (is_selected c.from (copied_from c r) && holds w.area (copied_from c r)) r
    where
      at_source : (b : Bool) (r : Pos) → IfSome (cond b (Some (turned_content c.transform (content_at w (copied_from c r)))) None) IsFromOpening
      at_source true r = read w from (copied_from c r)
      at_source false r = tt

-- ---- the fold

module _ (case : Workload) (order : List ℕ) where
  opening_from : IsWorldFromOpening case.opening case.opening
  opening_from = λ index within e is. record { index = index; within = within; stands = is }

  clip_task : (clip : Option Clip) → IfSome clip (λ c. IsWorldFromOpening case.opening (world_after case order (ticket_of order c.source)))
      → IsCopyFromOpening case.opening (option_map_or (λ c. clipboard_of c (world_after case order (ticket_of order c.source))) clip no_blocks)
  clip_task None from = λ r. tt
  clip_task (Some c) from = copy_from case.opening c (world_after case order (ticket_of order c.source)) from

  module _ (t : ℕ) (earlier : (k : ℕ) → k ≤ t → IsWorldFromOpening case.opening (world_after case order k)) where
    edit_changes : (n : ℕ) → ticket_from order (player_of order t) n < t → All (IsChangeFromOpening case.opening) (changes_of case order (ticket_from order (player_of order t) n))
    edit_changes n below =
        let k = ticket_from order (player_of order t) n in
        changes_from case.opening (world_after case order k) (world_after case order (suc k)) (earlier k (omega (arith, below))) (earlier (suc k) below)
        (area-world_after case order (suc k) ∙ sym (area-world_after case order k))

    step_from : (step : Step) → IfSome (clip_of step) (λ c. ticket_of order c.source < t) → All (λ n. ticket_from order (player_of order t) n < t) (edits_taken_by step)
        → IsWorldFromOpening case.opening (world_after_step (task_of case order t (world_after case order)) step (world_after case order t))
    step_from Settled clip taken = earlier t (omega arith)
    step_from (Refused refusal) clip taken = earlier t (omega arith)
    step_from (Job spec) clip taken =
        world_with_from case.opening (task_of case order t (world_after case order) spec) (world_after case order t) (earlier t (omega arith)) (record {
          copied = clip_task spec.clip (IfSome_then spec.clip clip (λ c below. earlier (ticket_of order c.source) (omega (arith, below))));
          taken = All-map (λ changes. All (IsChangeFromOpening case.opening) changes) (λ n. changes_of case order (ticket_from order (player_of order t) n)) (edits_taken spec.work)
              (All-weaker (λ n. ticket_from order (player_of order t) n < t) (λ n. All (IsChangeFromOpening case.opening) (changes_of case order (ticket_from order (player_of order t) n))) edit_changes (edits_taken spec.work) taken);
        })

  all_from : (t k : ℕ) → k ≤ t → IsWorldFromOpening case.opening (world_after case order k)
  all_from zero zero within = opening_from
  all_from zero (suc k) within = absurd (omega (arith, within))
  all_from (suc t) k within = elim (cases_lt k (suc t)) [
    | inl below ↦ all_from t k (omega (arith, below))
    | inr above ↦
        let e : suc t ≡ k = omega (arith, above, within) in
        subst (λ (n : ℕ). IsWorldFromOpening case.opening (world_after case order n)) e
        (subst (λ (w : World). IsWorldFromOpening case.opening w) (sym (follows_from_earlier case order t))
        (step_from t (all_from t) (step_of_ticket case order t) (clip_earlier case order t) (taken_earlier case order t)))
  ]

pub entities_come_from_the_opening_world : (case : Workload) (order : List ℕ) → EntitiesComeFromTheOpeningWorld case order
entities_come_from_the_opening_world case order = λ ticket e has. all_from case order ticket ticket (omega arith) has.index has.within e has.stands
