use Rattle.std.proofs.Common.{◌≡◌, ℕ, ◌<◌, length, get_or}
use Rattle.chunk_sections.specs.Packed.{word_of}
use Rattle.chunk_sections.proofs.packing.packed.Given as goal

abbrev pub invariant-loop-k : goal.invariant-loop-k
invariant-loop-k l = record {
  long : length l.words.items ≡ l.count;
  filled : (j : ℕ) → j < l.k → get_or l.words.items j 0 ≡ word_of l.base l.per l.numbers j;
}
