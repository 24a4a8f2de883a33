use Rattle.std.proofs.Common.{◌≡◌, ℕ, ◌+◌, List, length, ltb, ap, sym, ◌∙◌, arith}
use Rattle.edit_terms.specs.declared.script.Script.{Script}
use Rattle.edit_terms.specs.declared.script.Line.{Line}
use Rattle.run_terms.specs.Order.{turns_of}
use Rattle.edit_top.proofs.RoundLemmas.{turn_before, turn_more, round_done}
use Rattle.edit_top.proofs.rounds.push_round.Goals as goal

pub loop-player-preserved : goal.loop-player-preserved
loop-player-preserved c = λ player.
    ap (turns_of player) c.in_ok-push_turn.ensures
    ∙ turn_more c.args.round c.args.scripts.now c.loop-player.player c.index-scripts-player.result c.loop-player.order.items (ltb c.args.round (length c.as_slice.result.now))
    (turns_of player c.args.order.now.items) player c.loop-player-test.true c.index-scripts-player.is
    (ap (λ (ls : List Line). ltb c.args.round (length ls)) (c.as_slice.ensures ∙ ap (λ (script : Script). script.lines) (sym c.index-scripts-player.is))) (c.loop-player.invariant player)

pub returns : goal.returns
returns c = λ player.
    let all : c.loop-player.player ≡ length c.args.scripts.now = omega (arith, c.loop-player-test.false, c.loop-player.auto.player-end) in
    c.loop-player.invariant player
    ∙ ap (λ (n : ℕ). turns_of player c.args.order.now.items + turn_before c.args.round c.args.scripts.now n player) all
    ∙ ap (λ (m : ℕ). turns_of player c.args.order.now.items + m) (round_done c.args.round c.args.scripts.now player)
