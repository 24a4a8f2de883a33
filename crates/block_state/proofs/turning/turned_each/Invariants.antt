use Rattle.std.proofs.Common.{◌≡◌, map, take}
use Rattle.edit_terms.specs.Transform.{turned_property}
use Rattle.block_state.specs.Turn.{table_of}
use Rattle.block_state.proofs.turning.turned_each.Given as goal

abbrev pub invariant-loop-pair : goal.invariant-loop-pair
invariant-loop-pair l = l.turned.items ≡ map (turned_property (table_of l.motion)) (take l.pair-index l.pairs)
