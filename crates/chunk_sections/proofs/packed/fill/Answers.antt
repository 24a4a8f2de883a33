use Rattle.std.proofs.Common.{◌≡◌, length, sym, ◌∙◌, subst}
use Rattle.chunk_sections.specs.declared.width.Width.{Width}
use Rattle.chunk_sections.specs.Packed.{bits_of, unpacked}
use Rattle.chunk_sections.proofs.Words.{unpacked-none}
use Rattle.chunk_sections.proofs.packed.fill.Goals as goal

pub returns-in-Zero : goal.returns-in-Zero
returns-in-Zero c =
    subst (λ (w : Width). c.args.numbers.now.items ≡ unpacked (bits_of w) (length c.args.numbers.now.items) c.args.words.now) (sym c.in-Zero.is)
    (c.requires.zeros ∙ sym (unpacked-none (length c.args.numbers.now.items) c.args.words.now))
