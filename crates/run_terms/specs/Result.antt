-- The result of an order: what a run of it leaves.
use Rattle.std.specs.Prelude.{ℕ, List}
use Rattle.edit_terms.specs.declared.outcome.Reply.{Reply}
use Rattle.edit_terms.specs.World.{World}
use Rattle.run_terms.specs.Workload.{Workload}
use Rattle.run_terms.specs.Reply.{replies_of, final_world}

-- the last world and the replies to all tickets
pub record RunResult : Type 0 where
  pub world : World
  pub replies : List Reply

abbrev pub result_of : Workload → List ℕ → RunResult
result_of case order = record { world = final_world case order; replies = replies_of case order }
