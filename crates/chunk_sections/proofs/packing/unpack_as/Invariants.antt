use Rattle.std.proofs.Common.{◌≡◌, ℕ, ◌<◌, length, get_or}
use Rattle.chunk_sections.specs.Packed.{number_as}
use Rattle.chunk_sections.proofs.packing.unpack_as.Given as goal

abbrev pub invariant-loop-i : goal.invariant-loop-i
invariant-loop-i l = record {
  long : length l.numbers.items ≡ length l.initial.numbers.items;
  filled : (j : ℕ) → j < l.i → get_or l.numbers.items j 0 ≡ number_as l.bits l.per l.words j;
}
