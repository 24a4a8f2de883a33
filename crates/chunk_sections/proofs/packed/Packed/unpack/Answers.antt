use Rattle.std.proofs.Common.{◌≡◌, length, ap, ◌∙◌}
use Rattle.std.proofs.lemmas.List.{length-replicate}
use Rattle.std.proofs.lemmas.List.FromFn.{length-map-range_with_len}
use Rattle.chunk_sections.specs.Packed.{bits_of, words_needed, unpacked}
use Rattle.chunk_sections.proofs.Words.{length-words_of}
use Rattle.chunk_sections.proofs.packed.Packed.unpack.Goals as goal

pub fill-requires-clause-long : goal.fill-requires-clause-long
fill-requires-clause-long c =
    let long = ap length c.self.invariant ∙ length-words_of (bits_of c.self.inside.width) (unpacked (bits_of c.self.inside.width) c.self.inside.count c.self.inside.words.items)
    ∙ ap (words_needed (bits_of c.self.inside.width)) (length-map-range_with_len _ 0 c.self.inside.count) in
    let count : length c.zeros.new.numbers.items ≡ c.self.inside.count = ap length c.in_ok-zeros.ensures ∙ length-replicate c.self.inside.count 0 in
    cc (long, count)
