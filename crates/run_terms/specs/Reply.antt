-- What each ticket is answered, and what a whole run leaves.
use Rattle.std.specs.Prelude.{◌≡◌, ℕ, List, length, map}
use Rattle.std.specs.List.{range_with_len}
use Rattle.edit_terms.specs.declared.step.Work.{Work}
use Rattle.edit_terms.specs.declared.step.Work.TheVariants.{Copy}
use Rattle.edit_terms.specs.declared.step.Step.{Step}
use Rattle.edit_terms.specs.declared.step.Step.TheVariants.{Settled, Job, Refused as refused_step}
use Rattle.edit_terms.specs.declared.outcome.Reply.{Reply}
use Rattle.edit_terms.specs.declared.outcome.Reply.TheVariants.{Accepted, Changed, Refused}
use Rattle.edit_terms.specs.declared.outcome.Outcome.{Outcome}
use Rattle.edit_terms.specs.Grid.{world_of}
use Rattle.edit_terms.specs.World.{World}
use Rattle.run_terms.specs.Workload.{Workload}
use Rattle.run_terms.specs.Order.{IsLegalOrder, IsWholeOrder, step_of_ticket}
use Rattle.run_terms.specs.Fold.{world_after, changes_of}

-- the reply to a job that changed so many positions: a copy is accepted, every other job tells their number
abbrev pub reply_to_work : Work → ℕ → Reply
reply_to_work (Copy from) changed = Accepted
reply_to_work _ changed = Changed changed

-- the reply to a command that changed so many positions
abbrev pub reply_to : Step → ℕ → Reply
reply_to Settled changed = Accepted
reply_to (refused_step refusal) changed = Refused refusal
reply_to (Job spec) changed = reply_to_work spec.work changed

-- the reply to a ticket
abbrev pub reply_of : Workload → List ℕ → ℕ → Reply
reply_of case order ticket = reply_to (step_of_ticket case order ticket) (length (changes_of case order ticket))

-- the replies to all tickets of an order
abbrev pub replies_of : Workload → List ℕ → List Reply
replies_of case order = map (reply_of case order) (range_with_len 0 (length order))

-- the world that an order leaves
abbrev pub final_world : Workload → List ℕ → World
final_world case order = world_after case order (length order)

-- An outcome of a workload: one order, legal and whole, with the replies and the world that the serial fold of the
-- commands in that order gives.
pub record IsOutcome (case : Workload) (outcome : Outcome) : Type 0 where
  pub legal : IsLegalOrder case.scripts outcome.order
  pub whole : IsWholeOrder case.scripts outcome.order
  pub replies : outcome.replies ≡ replies_of case outcome.order
  pub world : world_of outcome.world ≡ final_world case outcome.order
