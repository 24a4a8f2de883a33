use Rattle.std.proofs.Common.{◌≡◌, map}
use Rattle.std.specs.List.{range_with_len}
use Rattle.serial_model.specs.Starting.{starting_player}
use Rattle.serial_model.proofs.player.start_all.Given as goal

abbrev pub invariant-loop-number : goal.invariant-loop-number
invariant-loop-number l = l.players.items ≡ map (starting_player l.depth) (range_with_len 0 l.number)
