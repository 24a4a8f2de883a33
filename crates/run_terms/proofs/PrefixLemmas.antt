-- What the first tickets leave is the same under a longer order: what a ticket reads of earlier ones it finds by their
-- places among the first tickets.
use Rattle.std.proofs.Common.{◌≡◌, ℕ, zero, suc, ◌+◌, ◌<◌, ◌≤◌, eqb, cond, Bool, true, false, List, [], ◌∷◌, ◌++◌, length, take, drop, Option, Some, None, refl, sym, ap, ◌∙◌, subst, arith}
use Rattle.std.specs.Prelude.{All, IfSome}
use Rattle.std.proofs.lemmas.List.{get_or_append_left, take-append-le, take-append-drop}
use Rattle.std.proofs.lemmas.List.Elements.{recursion_from_All}
use Rattle.std.proofs.lemmas.List.Sums.{sum_by-append}
use Rattle.edit_terms.specs.declared.clip.Clip.{Clip}
use Rattle.edit_terms.specs.declared.step.Step.{Step}
use Rattle.edit_terms.specs.declared.step.Step.TheVariants.{Settled, Job, Refused}
use Rattle.edit_terms.specs.Clipboard.{clipboard_of}
use Rattle.edit_terms.specs.World.{World}
use Rattle.run_terms.specs.Workload.{Workload}
use Rattle.run_terms.specs.Order.{turns_of, lines_of, player_of, command_number, source_of, ticket_from, step_of_command, step_of_ticket}
use Rattle.run_terms.specs.Change.{changes_between}
use Rattle.run_terms.specs.Effect.{world_with, world_after_step}
use Rattle.run_terms.specs.Fold.{clipboard_of_edit, edits_taken, changes_by, taken_changes, task_of, world_after, changes_of}
use Rattle.run_terms.specs.Prefix.{KeepResults}
use Rattle.run_terms.proofs.Lists.{map-agrees}
use Rattle.run_terms.proofs.Earlier.{IsEarlier, IsOfEarlier, step_is_of_earlier}
use Rattle.run_terms.proofs.FoldLemmas.{follows_from_earlier}
use Rattle.run_terms.proofs.Tickets.{turns_of-cons, ticket_from-earlier}

-- ---- tickets

found_behind : (ps more : List ℕ) (player n : ℕ) (mine : Bool) (p : ℕ) → eqb p player ≡ mine → n < cond mine 1 0 + turns_of player ps
    → ((m : ℕ) → m < turns_of player ps → ticket_from (ps ++ more) player m ≡ ticket_from ps player m) → ticket_from (p ∷ (ps ++ more)) player n ≡ ticket_from (p ∷ ps) player n
found_behind ps more player zero true p is few later =
    ap (λ (b : Bool). cond b 0 (suc (ticket_from (ps ++ more) player 0))) is ∙ sym (ap (λ (b : Bool). cond b 0 (suc (ticket_from ps player 0))) is)
found_behind ps more player zero false p is few later =
    ap (λ (b : Bool). cond b 0 (suc (ticket_from (ps ++ more) player 0))) is ∙ ap suc (later 0 (omega (arith, few))) ∙ sym (ap (λ (b : Bool). cond b 0 (suc (ticket_from ps player 0))) is)
found_behind ps more player (suc n) true p is few later =
    ap (λ (b : Bool). suc (ticket_from (ps ++ more) player (cond b n (suc n)))) is ∙ ap suc (later n (omega (arith, few))) ∙ sym (ap (λ (b : Bool). suc (ticket_from ps player (cond b n (suc n)))) is)
found_behind ps more player (suc n) false p is few later =
    ap (λ (b : Bool). suc (ticket_from (ps ++ more) player (cond b n (suc n)))) is ∙ ap suc (later (suc n) (omega (arith, few)))
    ∙ sym (ap (λ (b : Bool). suc (ticket_from ps player (cond b n (suc n)))) is)

-- a command of an order has the same ticket in a longer one
pub ticket_from-append : (order more : List ℕ) (player n : ℕ) → n < turns_of player order → ticket_from (order ++ more) player n ≡ ticket_from order player n
ticket_from-append [] more player n few = absurd (omega (arith, few))
ticket_from-append (p ∷ ps) more player n few =
    found_behind ps more player n (eqb p player) p refl (omega (arith, few, turns_of-cons player p ps)) (λ m less. ticket_from-append ps more player m less)

-- the first entries have no more turns than all
first_turns : (order : List ℕ) (player t : ℕ) → turns_of player (take t order) ≤ turns_of player order
first_turns order player t =
    let parts : turns_of player order ≡ turns_of player (take t order) + turns_of player (drop t order) =
    ap (turns_of player) (sym (take-append-drop t order)) ∙ sum_by-append (λ (p : ℕ). cond (eqb p player) 1 0) (take t order) (drop t order) in
    omega (arith, parts)

module _ (order more : List ℕ) (t : ℕ) (below : t < length order) where
  pub player_of-append : player_of (order ++ more) t ≡ player_of order t
  player_of-append = get_or_append_left order more 0 t below

  -- a ticket's command is the same in a longer order
  pub source_of-append : source_of (order ++ more) t ≡ source_of order t
  source_of-append =
      let player = player_of-append in
      let first = take-append-le t order more (omega (arith, below)) in
      λ i. record { player = player i; step = turns_of (player i) (first i) }

-- ---- worlds

module _ (case : Workload) (order more : List ℕ) (t : ℕ) (below : t < length order) (before : (k : ℕ) → k ≤ t → world_after case (order ++ more) k ≡ world_after case order k) where
  abbrev longer : List ℕ
  longer = order ++ more

  abbrev player : ℕ
  player = player_of order t

  ticket-same : (p n : ℕ) → n < turns_of p (take t order) → ticket_from longer p n ≡ ticket_from order p n
  ticket-same p n few = ticket_from-append order more p n (omega (arith, few, first_turns order p t))

  changes-same : (k : ℕ) → k < t → changes_of case longer k ≡ changes_of case order k
  changes-same k less =
      let old = before k (omega (arith, less)) in
      let new = before (suc k) less in
      λ i. changes_between (old i) (new i)

  clipboard-same : (clip : Option Clip) → IfSome clip (λ c. IsEarlier player (command_number order t) c.source)
      → clipboard_of_edit longer (world_after case longer) clip ≡ clipboard_of_edit order (world_after case order) clip
  clipboard-same None earlier = refl
  clipboard-same (Some c) earlier =
      let few : c.source.step < turns_of c.source.player (take t order) = subst (λ (p : ℕ). c.source.step < turns_of p (take t order)) (sym earlier.own) earlier.step in
      let less = ticket_from-earlier order c.source.player c.source.step t few in
      ap (λ (k : ℕ). clipboard_of c (world_after case longer k)) (ticket-same c.source.player c.source.step few)
      ∙ ap (clipboard_of c) (before (ticket_from order c.source.player c.source.step) (omega (arith, less)))

  taken-same : (edits : List ℕ) → All (λ n. n < command_number order t) edits
      → taken_changes longer (world_after case longer) player edits ≡ taken_changes order (world_after case order) player edits
  taken-same edits earlier =
      map-agrees (λ n. changes_by (world_after case longer) (ticket_from longer player n)) (λ n. changes_by (world_after case order) (ticket_from order player n))
      (λ n. n < command_number order t)
      (λ n few. ap (λ (k : ℕ). changes_of case longer k) (ticket-same player n few) ∙ changes-same (ticket_from order player n) (ticket_from-earlier order player n t few))
      edits (recursion_from_All (λ n. n < command_number order t) edits earlier)

  step-same : (step : Step) → IsOfEarlier player (command_number order t) step → (w : World)
      → world_after_step (task_of case longer t (world_after case longer)) step w ≡ world_after_step (task_of case order t (world_after case order)) step w
  step-same Settled earlier w = refl
  step-same (Refused refusal) earlier w = refl
  step-same (Job spec) earlier w =
      let copied = clipboard-same spec.clip earlier.clip in
      let taken = ap (λ (p : ℕ). taken_changes longer (world_after case longer) p (edits_taken spec.work)) (player_of-append order more t below) ∙ taken-same (edits_taken spec.work) earlier.taken in
      λ i. world_with (record { spec = spec; seed = case.seed; ticket = t; copied = copied i; taken = taken i }) w

  next-same : world_after case longer (suc t) ≡ world_after case order (suc t)
  next-same =
      let source = source_of-append order more t below in
      let here = before t (omega arith) in
      follows_from_earlier case longer t ∙ (λ i. world_after_step (task_of case longer t (world_after case longer)) (step_of_command case (source i)) (here i))
      ∙ step-same (step_of_ticket case order t) (step_is_of_earlier player case.depth (lines_of case.scripts player) (command_number order t)) (world_after case order t)
      ∙ sym (follows_from_earlier case order t)

module _ (case : Workload) (order more : List ℕ) where
  worlds-same : (bound k : ℕ) → k ≤ bound → k ≤ length order → world_after case (order ++ more) k ≡ world_after case order k
  worlds-same bound zero few within = refl
  worlds-same zero (suc k) few within = absurd (omega (arith, few))
  worlds-same (suc bound) (suc k) few within = next-same case order more k within (λ j less. worlds-same bound j (omega (arith, few, less)) (omega (arith, within, less)))

  -- the world after one of the first tickets is the same
  pub world_after-append : (k : ℕ) → k ≤ length order → world_after case (order ++ more) k ≡ world_after case order k
  world_after-append k within = worlds-same k k (omega arith) within

  pub keep_results : KeepResults case order more
  keep_results = record {
    sources = λ t below. source_of-append order more t below;
    worlds = world_after-append;
    changes = λ t below. (let old = world_after-append t (omega (arith, below)) in let new = world_after-append (suc t) below in λ i. changes_between (old i) (new i));
  }
