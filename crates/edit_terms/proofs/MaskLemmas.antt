-- A term negated twice holds where the term does; noise of chance 0 holds nowhere, and of chance 100 in the box.
use Rattle.std.proofs.Common.{◌≡◌, ℕ, ◌*◌, ◌^◌, ◌<◌, Bool, true, false, ◌&&◌, refl, ap, ◌∙◌, arith}
use Rattle.std.proofs.lemmas.Bool.{lt-ltb}
use Rattle.edit_terms.specs.declared.mask.Leaf.TheVariants.{Noise}
use Rattle.edit_terms.specs.Area.{holds}
use Rattle.edit_terms.specs.Draw.{draw_word}
use Rattle.edit_terms.proofs.PatternLemmas.{draw_word-below}
use Rattle.std.specs.Prelude.{not}
use Rattle.edit_terms.specs.declared.pos.Pos.{Pos}
use Rattle.edit_terms.specs.declared.mask.Term.{Term}
use Rattle.edit_terms.specs.Mask.{Scene, negated, term_holds, leaf_holds, is_by_chance}

not-not : (b : Bool) → not (not b) ≡ b
not-not true = refl
not-not false = refl

pub negated_twice : (t : Term) (number : ℕ) (s : Scene) (p : Pos) → term_holds (negated (negated t)) number s p ≡ term_holds t number s p
negated_twice t number s p = not-not (term_holds t number s p)

and-false : (b : Bool) → (b && false) ≡ false
and-false true = refl
and-false false = refl

and-true : (b : Bool) → (b && true) ≡ b
and-true true = refl
and-true false = refl

never : (word : ℕ) → is_by_chance 0 word ≡ false
never word = grind arith

always : (word : ℕ) → word < 2 ^ 32 → is_by_chance 100 word ≡ true
always word below = lt-ltb (word * 100) (100 * 2 ^ 32) (omega (arith, below))

pub noise_never : (number : ℕ) (s : Scene) (p : Pos) → leaf_holds (Noise 0) number s p ≡ false
noise_never number s p =
    ap (λ (b : Bool). holds s.world.area p && b) (never (draw_word s.seed s.ticket number p)) ∙ and-false (holds s.world.area p)

pub noise_always : (number : ℕ) (s : Scene) (p : Pos) → leaf_holds (Noise 100) number s p ≡ holds s.world.area p
noise_always number s p =
    let word = draw_word s.seed s.ticket number p in
    ap (λ (b : Bool). holds s.world.area p && b) (always word (draw_word-below s.seed s.ticket number p)) ∙ and-true (holds s.world.area p)
