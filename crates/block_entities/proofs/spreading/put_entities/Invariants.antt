use Rattle.std.proofs.Common.{◌≡◌, ◌++◌, map, take}
use Rattle.edit_terms.specs.Area.{index_of}
use Rattle.block_entities.specs.Gathering.{placed}
use Rattle.block_entities.specs.Spreading.{entry_of}
use Rattle.block_entities.proofs.spreading.put_entities.Given as goal

abbrev pub invariant-loop-placed : goal.invariant-loop-placed
invariant-loop-placed l = l.entries.items ≡ l.fn.entries.items ++ map (λ e. entry_of l.area (index_of l.area e.0) e.1) (placed (take l.placed-index l.list))
