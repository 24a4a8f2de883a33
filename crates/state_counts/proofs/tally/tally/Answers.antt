use Rattle.std.proofs.Common.{arith}
use Rattle.state_counts.proofs.Tallies.{count_fits, tallied_more}
use Rattle.state_counts.proofs.tally.tally.Goals as goal

pub overflow_add-index_mut : goal.overflow_add-index_mut
overflow_add-index_mut c =
    let fits = count_fits c.args.kinds c.args.numbers.now c.loop-number.counts.items c.loop-number.number-index c.index_mut.result.now c.loop-number.invariant c.requires.below c.loop-number-test.true c.index_mut.ensures.value c.requires.few in
    omega (arith, fits)

pub loop-number-preserved : goal.loop-number-preserved
loop-number-preserved c =
    tallied_more c.args.kinds c.args.numbers.now c.loop-number.counts.items c.loop-number.number-index c.index_mut.result.now c.loop-number.invariant c.requires.below c.loop-number-test.true c.index_mut.ensures.value
