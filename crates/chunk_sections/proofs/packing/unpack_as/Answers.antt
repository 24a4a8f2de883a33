use Rattle.std.proofs.Common.{arith}
use Rattle.std.proofs.lemmas.List.FromFn.{fill_by_all}
use Rattle.chunk_sections.specs.Packed.{number_as}
use Rattle.chunk_sections.proofs.packing.unpack_as.Goals as goal

pub returns : goal.returns
returns c = fill_by_all (number_as c.args.bits c.args.per c.args.words.now) _ _ 0 c.loop-i.invariant.long (λ k l. c.loop-i.invariant.filled k (omega arith))
