use Rattle.std.proofs.Common.{List, [], ◌∷◌, ◌++◌, ◌∙◌, ap, sym, arith}
use Rattle.std.proofs.lemmas.List.FromFn.{map-range_with_len_more}
use Rattle.serial_model.specs.declared.player.Player.{Player}
use Rattle.serial_model.specs.Starting.{starting_player}
use Rattle.serial_model.proofs.player.start_all.Goals as goal

pub loop-number-preserved : goal.loop-number-preserved
loop-number-preserved c =
    let k = c.loop-number.number in
    c.in_ok-push.ensures.items
    ∙ ap (λ (p : Player). c.loop-number.players.items ++ p ∷ []) c.in_ok-start.ensures
    ∙ ap (λ (ps : List Player). ps ++ starting_player c.args.depth k ∷ []) c.loop-number.invariant
    ∙ sym (map-range_with_len_more (starting_player c.args.depth) 0 k k (omega arith))
