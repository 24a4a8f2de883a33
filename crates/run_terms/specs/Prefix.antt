-- What the first tickets of an order leave doesn't depend on the tickets that follow.
use Rattle.std.specs.Prelude.{◌≡◌, ℕ, ◌<◌, ◌≤◌, List, ◌++◌, length}
use Rattle.run_terms.specs.Workload.{Workload}
use Rattle.run_terms.specs.Order.{source_of}
use Rattle.run_terms.specs.Fold.{world_after, changes_of}

-- under a longer order the first tickets are those of the same commands, and leave the same worlds by the same changes
pub record KeepResults (case : Workload) (order more : List ℕ) : Type 0 where
  pub sources : (ticket : ℕ) → ticket < length order → source_of (order ++ more) ticket ≡ source_of order ticket
  pub worlds : (ticket : ℕ) → ticket ≤ length order → world_after case (order ++ more) ticket ≡ world_after case order ticket
  pub changes : (ticket : ℕ) → ticket < length order → changes_of case (order ++ more) ticket ≡ changes_of case order ticket
