use Rattle.std.proofs.Common.{arith}
use Rattle.std.proofs.lemmas.List.FromFn.{fill_by_all}
use Rattle.chunk_sections.specs.Packed.{word_of}
use Rattle.chunk_sections.proofs.packing.packed.Goals as goal

pub returns : goal.returns
returns c = fill_by_all (word_of c.args.base c.args.per c.args.numbers.now) _ _ 0 c.loop-k.invariant.long (λ k l. c.loop-k.invariant.filled k (omega arith))
