use Rattle.std.proofs.Common.{take}
use Rattle.state_counts.proofs.Tallies.{Tallied}
use Rattle.state_counts.proofs.tally.tally.Given as goal

abbrev pub invariant-loop-number : goal.invariant-loop-number
invariant-loop-number l = Tallied l.kinds (take l.number-index l.numbers) l.counts.items
