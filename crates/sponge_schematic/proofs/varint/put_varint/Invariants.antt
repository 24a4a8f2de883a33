-- What was put and what is left are the number's varint.
use Rattle.std.proofs.Common.{◌++◌}
use Rattle.sponge_schematic.specs.Varint.{varint}
use Rattle.sponge_schematic.proofs.VarintBytes.{IsLeft}
use Rattle.sponge_schematic.proofs.varint.put_varint.Given as goal

abbrev pub invariant-loop-left : goal.invariant-loop-left
invariant-loop-left l = IsLeft (l.fn.out.items ++ varint l.fn.number) l.out.items l.left

abbrev pub decreases-loop-left : goal.decreases-loop-left
decreases-loop-left l = l.left
