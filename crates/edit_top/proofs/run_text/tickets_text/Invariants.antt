use Rattle.std.proofs.Common.{◌≡◌, ℕ, ◌<◌, length, take, get_or}
use Rattle.std.specs.List.{flat_map, range_with_len}
use Rattle.run_terms.specs.Order.{turns_of}
use Rattle.edit_top.specs.RunText.{text_of_ticket}
use Rattle.edit_top.proofs.run_text.tickets_text.Given as goal

-- the text of the tickets passed, and for each player how many of its commands were passed
abbrev pub invariant-loop-ticket : goal.invariant-loop-ticket
invariant-loop-ticket l = record {
  told : l.text.items ≡ flat_map (text_of_ticket l.scripts l.order l.replies) (range_with_len 0 l.ticket);
  long : length l.taken.items ≡ length l.scripts;
  turns : (player : ℕ) → player < length l.scripts → get_or l.taken.items player 0 ≡ turns_of player (take l.ticket l.order);
}
