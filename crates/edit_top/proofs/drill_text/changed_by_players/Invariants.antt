use Rattle.std.proofs.Common.{◌≡◌, ℕ, ◌<◌, ◌≤◌, ◌*◌, length, take, get_or}
use Rattle.run_terms.specs.Order.{turns_of}
use Rattle.edit_top.specs.DrillText.{changed_in_turns}
use Rattle.edit_top.proofs.drill_text.changed_by_players.Given as goal

-- what each player's tickets passed have changed, less than 2^32 for each of them
abbrev pub invariant-loop-ticket : goal.invariant-loop-ticket
invariant-loop-ticket l = record {
  long : length l.changed.items ≡ l.players;
  counts : (player : ℕ) → player < l.players → get_or l.changed.items player 0 ≡ changed_in_turns l.order l.replies player (turns_of player (take l.ticket l.order));
  few : (player : ℕ) → player < l.players → get_or l.changed.items player 0 ≤ turns_of player (take l.ticket l.order) * 4294967296;
}
