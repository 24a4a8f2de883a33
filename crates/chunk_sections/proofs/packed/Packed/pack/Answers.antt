use Rattle.chunk_sections.specs.Packed.{bits_of}
use Rattle.chunk_sections.proofs.Words.{bits_of-narrow, packed_again, packed_numbers-words_of}
use Rattle.chunk_sections.proofs.packed.Packed.pack.Goals as goal

pub invariant_of-result : goal.invariant_of-result
invariant_of-result c = packed_again (bits_of c.args.width) c.args.numbers.now c.in_ok-words.words.items (bits_of-narrow c.args.width) c.requires.fit c.in_ok-words.ensures

pub returns : goal.returns
returns c = packed_numbers-words_of (bits_of c.args.width) c.args.numbers.now c.in_ok-words.words.items (bits_of-narrow c.args.width) c.requires.fit c.in_ok-words.ensures
