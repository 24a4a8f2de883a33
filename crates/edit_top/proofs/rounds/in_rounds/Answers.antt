use Rattle.std.proofs.Common.{ℕ, ◌+◌, cond, ltb, length, ap, ◌∙◌, arith}
use Rattle.run_terms.specs.Order.{lines_of}
use Rattle.run_terms.proofs.LimitLemmas.{few_lines}
use Rattle.edit_top.proofs.RoundLemmas.{min_more}
use Rattle.edit_top.proofs.rounds.in_rounds.Goals as goal

pub loop-round-preserved : goal.loop-round-preserved
loop-round-preserved c = λ player.
    let n = length (lines_of c.args.scripts.now player) in
    c.in_ok-push_round.ensures player ∙ ap (λ (k : ℕ). k + cond (ltb c.loop-round.round n) 1 0) (c.loop-round.invariant player) ∙ min_more c.loop-round.round n

pub returns : goal.returns
returns c = λ player.
    let few = few_lines c.args.scripts.now c.requires.within player in
    c.loop-round.invariant player ∙ omega (arith, few)
