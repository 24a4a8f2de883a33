use Rattle.std.proofs.Common.{◌≡◌}
use Rattle.edit_terms.specs.Transform.{quarter_table, times}
use Rattle.block_state.specs.Turn.{properties_by}
use Rattle.block_state.proofs.turning.turned_quarters.Given as goal

abbrev pub invariant-loop-quarter : goal.invariant-loop-quarter
invariant-loop-quarter l = l.turned.items ≡ times l._quarter (properties_by quarter_table) l.fn.pairs.items
