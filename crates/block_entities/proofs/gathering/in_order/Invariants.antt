use Rattle.std.proofs.Common.{◌≡◌, ◌++◌, ◌<◌, All}
use Rattle.std.specs.Map.{keys_of}
use Rattle.edit_terms.specs.Area.{volume}
use Rattle.block_entities.specs.Gathering.{placed, positioned}
use Rattle.block_entities.proofs.gathering.in_order.Given as goal

abbrev pub invariant-loop-index : goal.invariant-loop-index
invariant-loop-index l = record {
  list : positioned l.area l.fn.found.entries ≡ placed l.list.items ++ positioned l.area l.index-iterator;
  below : All (λ index. index < volume l.area) (keys_of l.index-iterator);
}
