use Rattle.std.proofs.Common.{◌≡◌, ℕ, min, length}
use Rattle.run_terms.specs.Order.{lines_of, turns_of}
use Rattle.edit_top.proofs.rounds.in_rounds.Given as goal

-- each player had a turn in each round so far, as long as it has commands
abbrev pub invariant-loop-round : goal.invariant-loop-round
invariant-loop-round l = (player : ℕ) → turns_of player l.order.items ≡ min l.round (length (lines_of l.scripts player))
