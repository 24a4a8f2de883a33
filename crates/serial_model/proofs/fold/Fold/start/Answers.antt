use Rattle.std.proofs.Common.{ℕ, ap, ◌∙◌, map}
use Rattle.std.specs.List.{range_with_len}
use Rattle.serial_model.specs.Starting.{starting_player}
use Rattle.serial_model.proofs.StartLemmas.{starts}
use Rattle.serial_model.proofs.fold.Fold.start.Goals as goal

pub returns : goal.returns
returns c =
    starts c.args.case.now c.in_ok-canvas.canvas c.in_ok-players.players.items c.new.result.items c.in_ok-canvas.ensures
    (c.in_ok-players.ensures ∙ ap (λ (n : ℕ). map (starting_player c.args.case.now.depth) (range_with_len 0 n)) c.player_count.ensures) c.new.ensures.items
