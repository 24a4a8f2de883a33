use Rattle.std.proofs.Common.{◌≡◌, ◌++◌, map, get_or}
use Rattle.std.specs.List.{flat_map, range_with_len}
use Rattle.edit_top.specs.DrillText.{player_text}
use Rattle.edit_top.specs.RunText.{name_of}
use Rattle.edit_top.proofs.drill_text.push_players.Given as goal

-- the lines of the players passed
abbrev pub invariant-loop-player : goal.invariant-loop-player
invariant-loop-player l = l.text.items ≡ l.fn.text.items ++ flat_map player_text (map (λ player. (name_of l.scripts player, get_or l.changed player 0)) (range_with_len 0 l.player))
