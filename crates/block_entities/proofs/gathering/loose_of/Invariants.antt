use Rattle.std.proofs.Common.{◌≡◌, length, reverse, ◌++◌}
use Rattle.block_entities.specs.Gathering.{loose_of}
use Rattle.block_entities.proofs.gathering.loose_of.Given as goal

abbrev pub invariant-loop-entry : goal.invariant-loop-entry
invariant-loop-entry l = loose_of l.area l.fn.entries ≡ loose_of l.area l.entries ++ reverse l.loose.items

abbrev pub decreases-loop-entry : goal.decreases-loop-entry
decreases-loop-entry l = length l.entries
