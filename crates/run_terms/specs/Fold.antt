-- The serial fold: the world after so many tickets of an order, and what each ticket changes.
use Rattle.std.specs.Prelude.{◌≡◌, ℕ, zero, suc, List, [], ◌∷◌, ◌++◌, map, get_or, Option}
use Rattle.std.specs.Option.{option_map_or}
use Rattle.edit_terms.specs.declared.clip.Clip.{Clip}
use Rattle.edit_terms.specs.declared.step.Work.{Work}
use Rattle.edit_terms.specs.declared.step.Work.TheVariants.{Undo, Redo}
use Rattle.edit_terms.specs.declared.step.Spec.{Spec}
use Rattle.edit_terms.specs.declared.step.Step.{Step}
use Rattle.edit_terms.specs.declared.step.Step.TheVariants.{Job}
use Rattle.edit_terms.specs.Clipboard.{CopiedBlocks, clipboard_of, no_blocks}
use Rattle.edit_terms.specs.World.{World}
use Rattle.run_terms.specs.Workload.{Workload}
use Rattle.run_terms.specs.Order.{player_of, ticket_of, step_of_ticket}
use Rattle.run_terms.specs.Change.{Change, changes_between}
use Rattle.run_terms.specs.Effect.{Task, world_after_step}

-- The clipboard of an edit: what its selection held before the ticket that copied it. Here, and in what follows up to
-- `next_world`, worlds are told by how many tickets went before.
abbrev pub clipboard_of_edit : List ℕ → (ℕ → World) → Option Clip → CopiedBlocks
clipboard_of_edit order world_at clip = option_map_or (λ c. clipboard_of c (world_at (ticket_of order c.source))) clip no_blocks

-- the commands whose changes a work takes, by command index
abbrev pub edits_taken : Work → List ℕ
edits_taken (Undo edits) = edits
edits_taken (Redo edits) = edits
edits_taken _ = []

abbrev pub edits_taken_by : Step → List ℕ
edits_taken_by (Job spec) = edits_taken spec.work
edits_taken_by _ = []

-- the changes of a ticket
abbrev pub changes_by : (ℕ → World) → ℕ → List Change
changes_by world_at ticket = changes_between (world_at ticket) (world_at (suc ticket))

-- the changes of the edits that a player's command takes, in the order in which it takes them
abbrev pub taken_changes : List ℕ → (ℕ → World) → ℕ → List ℕ → List (List Change)
taken_changes order world_at player edits = map (λ n. changes_by world_at (ticket_of order (record { player = player; step = n }))) edits

-- what a ticket's job reads beside the world before it
abbrev pub task_of : Workload → List ℕ → ℕ → (ℕ → World) → Spec → Task
task_of case order ticket world_at spec = record {
  spec = spec;
  seed = case.seed;
  ticket = ticket;
  copied = clipboard_of_edit order world_at spec.clip;
  taken = taken_changes order world_at (player_of order ticket) (edits_taken spec.work);
}

-- the world after a ticket, from the worlds before
abbrev pub next_world : Workload → List ℕ → ℕ → (ℕ → World) → World
next_world case order ticket world_at = world_after_step (task_of case order ticket world_at) (step_of_ticket case order ticket) (world_at ticket)

-- the world after so many tickets, in the list of the worlds so far
abbrev pub world_in : Workload → List World → ℕ → World
world_in case past ticket = get_or past ticket case.opening

abbrev pub with_next : Workload → List ℕ → ℕ → List World → List World
with_next case order ticket past = past ++ next_world case order ticket (world_in case past) ∷ []

-- The worlds after none, one, two and so on of the first tickets: the opening world, and then each ticket's work over
-- the world before it. Clipboards and taken changes come from earlier worlds of the list.
abbrev pub worlds : Workload → List ℕ → ℕ → List World
worlds case order zero = case.opening ∷ []
worlds case order (suc ticket) = with_next case order ticket (worlds case order ticket)

-- the world after the first so many tickets
abbrev pub world_after : Workload → List ℕ → ℕ → World
world_after case order ticket = world_in case (worlds case order ticket) ticket

-- the changes of a ticket
abbrev pub changes_of : Workload → List ℕ → ℕ → List Change
changes_of case order ticket = changes_by (world_after case order) ticket

-- The world after a ticket is told by the worlds after the tickets before: clipboards hold what stood before the tickets
-- that copied them, and what is taken are the changes of the tickets of those edits.
abbrev pub FollowsFromEarlier : Workload → List ℕ → ℕ → Type 0
FollowsFromEarlier case order ticket = world_after case order (suc ticket) ≡ next_world case order ticket (world_after case order)
