-- What a run of a workload in an order leaves.
use Rattle.std.specs.Prelude.{◌≡◌, ℕ, List}
use Rattle.edit_terms.specs.declared.outcome.Outcome.{Outcome}
use Rattle.edit_terms.specs.Grid.{world_of}
use Rattle.run_terms.specs.Order.{IsLegalOrder}
use Rattle.run_terms.specs.Reply.{replies_of, final_world}
use Rattle.run_terms.specs.Workload.{Workload}

-- The order is legal, and the outcome has its replies and its last world. Of an order that isn't whole it is the fold
-- so far.
pub record IsRunIn (case : Workload) (order : List ℕ) (outcome : Outcome) : Type 0 where
  pub order_is : outcome.order ≡ order
  pub legal : IsLegalOrder case.scripts order
  pub replies : outcome.replies ≡ replies_of case order
  pub world : world_of outcome.world ≡ final_world case order
