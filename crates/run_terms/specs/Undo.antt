-- What undo and redo promise of the worlds of a run. A position is named by its place in the box's list.
use Rattle.std.specs.Prelude.{◌≡◌, ℕ, suc, ◌<◌, ◌==◌, Bool, true, false, List, [], ◌∷◌, map, Option, Some, None}
use Rattle.std.specs.List.{list_any}
use Rattle.edit_terms.specs.declared.step.Work.{Work}
use Rattle.edit_terms.specs.declared.step.Work.TheVariants.{Undo, Redo}
use Rattle.edit_terms.specs.declared.step.Step.{Step}
use Rattle.edit_terms.specs.declared.step.Step.TheVariants.{Job}
use Rattle.edit_terms.specs.Area.{volume}
use Rattle.edit_terms.specs.World.{IsWorld}
use Rattle.run_terms.specs.Workload.{Workload}
use Rattle.run_terms.specs.Order.{player_of, ticket_of, step_of_ticket}
use Rattle.run_terms.specs.Change.{Change, content_of}
use Rattle.run_terms.specs.Fold.{world_after, changes_of}

-- the work of a job
abbrev pub work_of_step : Step → Option Work
work_of_step (Job spec) = Some spec.work
work_of_step _ = None

-- a ticket takes back exactly one edit, and that is the edit of the other ticket
pub record Undoes (case : Workload) (order : List ℕ) (undo edit : ℕ) : Type 0 where
  pub number : ℕ
  pub work : work_of_step (step_of_ticket case order undo) ≡ Some (Undo (number ∷ []))
  pub ticket : ticket_of order (record { player = player_of order undo; step = number }) ≡ edit

-- a ticket does exactly one edit again, and that is the edit of the other ticket
pub record Redoes (case : Workload) (order : List ℕ) (redo edit : ℕ) : Type 0 where
  pub number : ℕ
  pub work : work_of_step (step_of_ticket case order redo) ≡ Some (Redo (number ∷ []))
  pub ticket : ticket_of order (record { player = player_of order redo; step = number }) ≡ edit

-- the position is one of the ticket's changes
abbrev pub is_changed : Workload → List ℕ → ℕ → ℕ → Bool
is_changed case order ticket index = list_any (λ change. change.index == index) (changes_of case order ticket)

-- Each position that the edit changed has the content from before the edit again, and every other stays as it is,
-- whoever changed it between.
pub record UndoRestores (case : Workload) (order : List ℕ) (undo edit : ℕ) : Type 0 where
  pub restored : (index : ℕ) → index < volume case.opening.area → is_changed case order edit index ≡ true
      → content_of (world_after case order (suc undo)) index ≡ content_of (world_after case order edit) index
  pub others : (index : ℕ) → index < volume case.opening.area → is_changed case order edit index ≡ false
      → content_of (world_after case order (suc undo)) index ≡ content_of (world_after case order undo) index

-- each position that the edit changed has the content from after the edit again, and every other stays as it is
pub record RedoRestores (case : Workload) (order : List ℕ) (redo edit : ℕ) : Type 0 where
  pub restored : (index : ℕ) → index < volume case.opening.area → is_changed case order edit index ≡ true
      → content_of (world_after case order (suc redo)) index ≡ content_of (world_after case order (suc edit)) index
  pub others : (index : ℕ) → index < volume case.opening.area → is_changed case order edit index ≡ false
      → content_of (world_after case order (suc redo)) index ≡ content_of (world_after case order redo) index

-- no ticket between the two changes the position
abbrev pub IsUnchangedBetween : Workload → List ℕ → ℕ → ℕ → ℕ → Type 0
IsUnchangedBetween case order first last index = (ticket : ℕ) → first < ticket → ticket < last → is_changed case order ticket index ≡ false

-- no ticket between the two changes anything
abbrev pub NothingChangesBetween : Workload → List ℕ → ℕ → ℕ → Type 0
NothingChangesBetween case order first last = (ticket : ℕ) → first < ticket → ticket < last → changes_of case order ticket ≡ []

-- the change back
abbrev pub inverse_change : Change → Change
inverse_change change = record { index = change.index; before = change.after; after = change.before }

-- Where no ticket between changed a position of the edit, the undo's changes are those of the edit, each the other way
-- round. Where no ticket between changed anything, the undo leaves the world from before the edit, and a later redo of
-- the edit, with nothing changed between, the world from after it.
pub record UndoInverts (case : Workload) (order : List ℕ) (undo edit : ℕ) : Type 0 where
  pub inverse : ((index : ℕ) → is_changed case order edit index ≡ true → IsUnchangedBetween case order edit undo index)
      → changes_of case order undo ≡ map inverse_change (changes_of case order edit)
  pub undone : IsWorld case.opening → NothingChangesBetween case order edit undo
      → world_after case order (suc undo) ≡ world_after case order edit
  pub redone : IsWorld case.opening → NothingChangesBetween case order edit undo
      → (redo : ℕ) → undo < redo → Redoes case order redo edit → NothingChangesBetween case order undo redo
      → world_after case order (suc redo) ≡ world_after case order (suc edit)
