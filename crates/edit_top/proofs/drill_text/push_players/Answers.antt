use Rattle.std.proofs.Common.{ℕ, List, ◌++◌, get_or, ap, sym, ◌∙◌}
use Rattle.edit_top.specs.RunText.{name_of}
use Rattle.edit_top.specs.DrillText.{player_text}
use Rattle.edit_top.proofs.DrillCounts.{lines_more}
use Rattle.edit_top.proofs.Printing.{name_of-read}
use Rattle.edit_top.proofs.drill_text.push_players.Goals as goal

pub loop-player-preserved : goal.loop-player-preserved
loop-player-preserved c =
    let player = c.loop-player.player in
    let count = get_or c.args.changed.now player 0 in
    c.in_ok-push_line.ensures
    ∙ ap (λ (name : List ℕ). c.loop-player.text.items ++ player_text (name, count)) (c.as_slice.ensures ∙ sym (name_of-read c.args.scripts.now player c.index-scripts-player.result c.loop-player-test.true c.index-scripts-player.is))
    ∙ ap (λ (front : List ℕ). front ++ player_text (name_of c.args.scripts.now player, count)) c.loop-player.invariant
    ∙ lines_more c.args.text.now.items (λ p. (name_of c.args.scripts.now p, get_or c.args.changed.now p 0)) player
