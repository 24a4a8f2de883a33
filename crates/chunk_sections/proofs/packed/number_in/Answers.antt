use Rattle.std.proofs.Common.{◌≡◌, sym, subst}
use Rattle.std.proofs.Math.Nat.{mod-one}
use Rattle.chunk_sections.specs.declared.width.Width.{Width}
use Rattle.chunk_sections.specs.Packed.{bits_of, number_at}
use Rattle.chunk_sections.proofs.packed.number_in.Goals as goal

pub returns-in-Zero : goal.returns-in-Zero
returns-in-Zero c = subst (λ (w : Width). 0 ≡ number_at (bits_of w) c.args.words.now c.args.i) (sym c.in-Zero.is) (sym (mod-one _))
