use Rattle.std.proofs.Common.{◌≡◌, ◌<◌, length, get_or, sym, ap, subst, ◌∙◌, arith}
use Rattle.std.proofs.lemmas.List.FromFn.{length-map-range_with_len, get_or-map-range_with_len}
use Rattle.chunk_sections.specs.Packed.{bits_of, number_at, words_needed, unpacked, PackedNumbers}
use Rattle.chunk_sections.proofs.Words.{length-words_of}
use Rattle.chunk_sections.proofs.packed.Packed.get.Goals as goal

pub number_in-requires-clause-long : goal.number_in-requires-clause-long
number_in-requires-clause-long c =
    let long = ap length c.self.invariant ∙ length-words_of (bits_of c.self.inside.width) (unpacked (bits_of c.self.inside.width) c.self.inside.count c.self.inside.words.items)
    ∙ ap (words_needed (bits_of c.self.inside.width)) (length-map-range_with_len _ 0 c.self.inside.count) in
    cc long

pub number_in-requires-clause-there : goal.number_in-requires-clause-there
number_in-requires-clause-there c =
    let long : length (unpacked (bits_of c.self.inside.width) c.self.inside.count c.self.inside.words.items) ≡ c.self.inside.count = length-map-range_with_len _ 0 c.self.inside.count in
    omega (arith, long, ap (λ (p : PackedNumbers). length p.numbers) c.self.view_is)

pub returns : goal.returns
returns c =
    let long : length (unpacked (bits_of c.self.inside.width) c.self.inside.count c.self.inside.words.items) ≡ c.self.inside.count = length-map-range_with_len _ 0 c.self.inside.count in
    let within : c.args.i < c.self.inside.count = omega (arith, long, ap (λ (p : PackedNumbers). length p.numbers) c.self.view_is) in
    subst (λ (p : PackedNumbers). c.number_in.result ≡ get_or p.numbers c.args.i 0) c.self.view_is
    (c.number_in.ensures ∙ ap (λ ws. number_at (bits_of c.self.inside.width) ws c.args.i) c.as_slice.ensures.value ∙ sym (get_or-map-range_with_len (number_at (bits_of c.self.inside.width) c.self.inside.words.items) 0 c.self.inside.count c.args.i c.args.i 0 within (omega arith)))
