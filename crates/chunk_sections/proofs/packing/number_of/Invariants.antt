use Rattle.std.proofs.Common.{◌≡◌, ◌≤◌, length, drop}
use Rattle.chunk_sections.specs.Packed.{number_of}
use Rattle.chunk_sections.proofs.packing.number_of.Given as goal

abbrev pub invariant-loop-left : goal.invariant-loop-left
invariant-loop-left l = record { within : l.left ≤ length l.digits; value : l.number ≡ number_of l.base (drop l.left l.digits) }

abbrev pub decreases-loop-left : goal.decreases-loop-left
decreases-loop-left l = l.left
