-- The worlds of the fold: each follows from those before it, and all have the opening world's box.
use Rattle.std.proofs.Common.{◌≡◌, ℕ, zero, suc, ◌<◌, ◌≤◌, List, [], ◌∷◌, length, map, get_or, Option, Some, None, refl, sym, ap, ◌∙◌, subst, inl, inr, arith}
use Rattle.std.specs.Prelude.{All, IfSome}
use Rattle.std.specs.Option.{option_map_or}
use Rattle.std.proofs.lemmas.Bool.{cases_lt}
use Rattle.std.proofs.lemmas.List.{length_push, get_or_at, get_or_append_left, length-map}
use Rattle.std.proofs.lemmas.List.FromFn.{length-range_with_len}
use Rattle.std.proofs.lemmas.List.Elements.{All-weaker, recursion_from_All}
use Rattle.std.proofs.lemmas.Option.{IfSome_then}
use Rattle.edit_terms.specs.declared.clip.Clip.{Clip}
use Rattle.edit_terms.specs.declared.step.Spec.{Spec}
use Rattle.edit_terms.specs.declared.step.Step.{Step}
use Rattle.edit_terms.specs.declared.step.Step.TheVariants.{Settled, Job, Refused}
use Rattle.edit_terms.specs.Area.{volume}
use Rattle.edit_terms.specs.Clipboard.{CopiedBlocks, clipboard_of, no_blocks}
use Rattle.edit_terms.specs.World.{World, IsWorld}
use Rattle.run_terms.specs.Workload.{Workload}
use Rattle.run_terms.specs.Order.{player_of, command_number, lines_of, ticket_from, ticket_of, step_of_ticket}
use Rattle.run_terms.specs.Change.{Change, changes_between}
use Rattle.run_terms.specs.Effect.{Task, effect_at, world_with, world_after_step}
use Rattle.run_terms.specs.Fold.{world_in, clipboard_of_edit, edits_taken, edits_taken_by, changes_by, taken_changes, task_of, next_world, worlds, world_after, changes_of, FollowsFromEarlier}
use Rattle.run_terms.proofs.Lists.{map-agrees}
use Rattle.run_terms.proofs.Earlier.{clip_of, IsEarlier, step_is_of_earlier}
use Rattle.run_terms.proofs.Tickets.{ticket_from-earlier}

pub length-worlds : (case : Workload) (order : List ℕ) (t : ℕ) → length (worlds case order t) ≡ suc t
length-worlds case order zero = refl
length-worlds case order (suc t) =
    let push = length_push (worlds case order t) (next_world case order t (world_in case (worlds case order t))) in
    omega (arith, push, length-worlds case order t)

-- the list of worlds keeps the earlier ones
pub world_in-worlds : (case : Workload) (order : List ℕ) (t k : ℕ) → k ≤ t → world_in case (worlds case order t) k ≡ world_after case order k
world_in-worlds case order zero zero within = refl
world_in-worlds case order zero (suc k) within = absurd (omega (arith, within))
world_in-worlds case order (suc t) k within = elim (cases_lt k (suc t)) [
  | inl below ↦
      get_or_append_left (worlds case order t) (next_world case order t (world_in case (worlds case order t)) ∷ []) case.opening k (omega (arith, below, length-worlds case order t))
      ∙ world_in-worlds case order t k (omega (arith, below))
  | inr above ↦ let e : suc t ≡ k = omega (arith, above, within) in ap (λ (n : ℕ). get_or (worlds case order n) k case.opening) e
]

world_after-next : (case : Workload) (order : List ℕ) (t : ℕ) → world_after case order (suc t) ≡ next_world case order t (world_in case (worlds case order t))
world_after-next case order t = get_or_at (worlds case order t) (next_world case order t (world_in case (worlds case order t))) [] case.opening (suc t) (length-worlds case order t)

module _ (case : Workload) (order : List ℕ) (t : ℕ) where
  clipboard-same : (clip : Option Clip) → IfSome clip (λ c. ticket_of order c.source < t)
      → clipboard_of_edit order (world_in case (worlds case order t)) clip ≡ option_map_or (λ c. clipboard_of c (world_after case order (ticket_of order c.source))) clip no_blocks
  clipboard-same None earlier = refl
  clipboard-same (Some c) earlier = ap (clipboard_of c) (world_in-worlds case order t (ticket_of order c.source) (omega (arith, earlier)))

  changes-same : (k : ℕ) → k < t → changes_by (world_in case (worlds case order t)) k ≡ changes_of case order k
  changes-same k below =
      ap (λ (w : World). changes_between w (world_in case (worlds case order t) (suc k))) (world_in-worlds case order t k (omega (arith, below)))
      ∙ ap (λ (v : World). changes_between (world_after case order k) v) (world_in-worlds case order t (suc k) below)

  taken-same : (edits : List ℕ) → All (λ n. ticket_from order (player_of order t) n < t) edits
      → taken_changes order (world_in case (worlds case order t)) (player_of order t) edits ≡ map (λ n. changes_of case order (ticket_from order (player_of order t) n)) edits
  taken-same edits earlier =
      map-agrees (λ n. changes_by (world_in case (worlds case order t)) (ticket_from order (player_of order t) n)) (λ n. changes_of case order (ticket_from order (player_of order t) n))
      (λ n. ticket_from order (player_of order t) n < t) (λ n below. changes-same (ticket_from order (player_of order t) n) below) edits
      (recursion_from_All (λ n. ticket_from order (player_of order t) n < t) edits earlier)

  task-same : (spec : Spec) → IfSome spec.clip (λ c. ticket_of order c.source < t) → All (λ n. ticket_from order (player_of order t) n < t) (edits_taken spec.work)
      → task_of case order t (world_in case (worlds case order t)) spec ≡ task_of case order t (world_after case order) spec
  task-same spec clip taken =
      ap (λ (copied : CopiedBlocks). record { spec = spec; seed = case.seed; ticket = t; copied = copied; taken = taken_changes order (world_in case (worlds case order t)) (player_of order t) (edits_taken spec.work) }) (clipboard-same spec.clip clip)
      ∙ ap (λ (changes : List (List Change)). record { spec = spec; seed = case.seed; ticket = t; copied = (task_of case order t (world_after case order) spec).copied; taken = changes }) (taken-same (edits_taken spec.work) taken)

  after-same : (step : Step) → IfSome (clip_of step) (λ c. ticket_of order c.source < t) → All (λ n. ticket_from order (player_of order t) n < t) (edits_taken_by step) → (w : World)
      → world_after_step (task_of case order t (world_in case (worlds case order t))) step w ≡ world_after_step (task_of case order t (world_after case order)) step w
  after-same Settled clip taken w = refl
  after-same (Refused refusal) clip taken w = refl
  after-same (Job spec) clip taken w = ap (λ (task : Task). world_with task w) (task-same spec clip taken)

  -- what a step takes of commands before its own has an earlier ticket
  pub taken_earlier : All (λ n. ticket_from order (player_of order t) n < t) (edits_taken_by (step_of_ticket case order t))
  taken_earlier =
      let steps = (step_is_of_earlier (player_of order t) case.depth (lines_of case.scripts (player_of order t)) (command_number order t)).taken in
      All-weaker (λ n. n < command_number order t) (λ n. ticket_from order (player_of order t) n < t) (λ n below. ticket_from-earlier order (player_of order t) n t below)
      (edits_taken_by (step_of_ticket case order t)) steps

  copy_earlier : (c : Clip) → IsEarlier (player_of order t) (command_number order t) c.source → ticket_of order c.source < t
  copy_earlier c earlier =
      subst (λ (p : ℕ). ticket_from order p c.source.step < t) (sym earlier.own) (ticket_from-earlier order (player_of order t) c.source.step t earlier.step)

  pub clip_earlier : IfSome (clip_of (step_of_ticket case order t)) (λ c. ticket_of order c.source < t)
  clip_earlier =
      let clips = (step_is_of_earlier (player_of order t) case.depth (lines_of case.scripts (player_of order t)) (command_number order t)).clip in
      IfSome_then (clip_of (step_of_ticket case order t)) clips copy_earlier

  pub follows_from_earlier : FollowsFromEarlier case order t
  follows_from_earlier = world_after-next case order t ∙ after-same (step_of_ticket case order t) clip_earlier taken_earlier (world_after case order t)

-- ---- the box stays

area_after_step : (task_of : Spec → Task) (step : Step) (w : World) → (world_after_step task_of step w).area ≡ w.area
area_after_step task_of Settled w = refl
area_after_step task_of (Refused refusal) w = refl
area_after_step task_of (Job spec) w = refl

pub area-world_after : (case : Workload) (order : List ℕ) (t : ℕ) → (world_after case order t).area ≡ case.opening.area
area-world_after case order zero = refl
area-world_after case order (suc t) =
    ap (λ (w : World). w.area) (follows_from_earlier case order t)
    ∙ area_after_step (task_of case order t (world_after case order)) (step_of_ticket case order t) (world_after case order t) ∙ area-world_after case order t

whole_after_step : (task_of : Spec → Task) (step : Step) (w : World) → IsWorld w → IsWorld (world_after_step task_of step w)
whole_after_step task_of Settled w whole = whole
whole_after_step task_of (Refused refusal) w whole = whole
whole_after_step task_of (Job spec) w whole = length-map _ (effect_at (task_of spec) w) ∙ length-range_with_len 0 (volume w.area)

-- each world of the fold has as many contents as its volume
pub whole-world_after : (case : Workload) (order : List ℕ) (t : ℕ) → IsWorld case.opening → IsWorld (world_after case order t)
whole-world_after case order zero whole = whole
whole-world_after case order (suc t) whole =
    subst (λ (w : World). IsWorld w) (sym (follows_from_earlier case order t))
    (whole_after_step (task_of case order t (world_after case order)) (step_of_ticket case order t) (world_after case order t) (whole-world_after case order t whole))
