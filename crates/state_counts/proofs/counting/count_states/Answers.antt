use Rattle.state_counts.proofs.Census.{census_of_kinds}
use Rattle.state_counts.proofs.counting.count_states.Goals as goal

pub returns : goal.returns
returns c =
    census_of_kinds c.args.world.now c.kinds.result.now c.cells.result.now c.kinds.ensures c.cells.ensures.cells c.cells.ensures.numbered c.in_ok-counts.counts c.in_ok-counts.ensures.ordered c.in_ok-counts.ensures.counted
