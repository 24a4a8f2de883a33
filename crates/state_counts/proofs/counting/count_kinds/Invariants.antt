use Rattle.std.specs.BTreeMap.{IsOrdered}
use Rattle.state_counts.specs.Counts.{IsCountedBelow, key_cmp}
use Rattle.state_counts.proofs.counting.count_kinds.Given as goal

-- the kinds so far are counted
abbrev pub invariant-loop-kind : goal.invariant-loop-kind
invariant-loop-kind l = record {
  ordered : IsOrdered key_cmp l.counts;
  counted : IsCountedBelow l.kinds l.cells l.kind l.counts;
}
