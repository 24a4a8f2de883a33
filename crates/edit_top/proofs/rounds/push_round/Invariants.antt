use Rattle.std.proofs.Common.{◌≡◌, ℕ, ◌+◌}
use Rattle.run_terms.specs.Order.{turns_of}
use Rattle.edit_top.proofs.RoundLemmas.{turn_before}
use Rattle.edit_top.proofs.rounds.push_round.Given as goal

-- the players before this one had their turns
abbrev pub invariant-loop-player : goal.invariant-loop-player
invariant-loop-player l = (player : ℕ) → turns_of player l.order.items ≡ turns_of player l.fn.order.items + turn_before l.round l.scripts l.player player
