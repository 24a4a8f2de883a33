use Rattle.std.proofs.Common.{ℕ, ◌≤◌, ◌-◌, length}
use Rattle.change_cases.proofs.places.stretches.Given as goal

-- a stretch has at least one position
pub record IsWalked (count i whole : ℕ) : Type 0 where
  pub counted : count ≤ i
  pub within : i ≤ whole

abbrev pub invariant-loop-i : goal.invariant-loop-i
invariant-loop-i g l = IsWalked l.count l.i (length (g.L.CellList.cells l.list))

abbrev pub decreases-loop-i : goal.decreases-loop-i
decreases-loop-i g l = length (g.L.CellList.cells l.list) - l.i
