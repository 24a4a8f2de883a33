use Rattle.std.proofs.Common.{◌≡◌, length, sym, subst}
use Rattle.std.proofs.lemmas.List.FromFn.{length-map-range_with_len}
use Rattle.chunk_sections.specs.Packed.{PackedNumbers}
use Rattle.chunk_sections.proofs.packed.Packed.len.Goals as goal

pub returns : goal.returns
returns c = subst (λ (p : PackedNumbers). c.self.inside.count ≡ length p.numbers) c.self.view_is (sym (length-map-range_with_len _ 0 c.self.inside.count))
