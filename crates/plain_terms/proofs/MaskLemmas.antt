-- The terms of a mask, one after the other.
use Rattle.std.proofs.Common.{◌≡◌, ℕ, ◌+◌, ◌<◌, ◌≤◌, Bool, true, false, ◌&&◌, List, ◌∷◌, length, get_or, drop, refl, sym, ap, ◌∙◌, subst, arith}
use Rattle.std.specs.Prelude.{suc}
use Rattle.std.specs.List.{list_all}
use Rattle.std.proofs.Math.Seq.{drop-cons}
use Rattle.std.proofs.lemmas.List.{drop_all}
use Rattle.edit_terms.specs.declared.pos.Pos.{Pos}
use Rattle.edit_terms.specs.declared.mask.Term.{Term}
use Rattle.edit_terms.specs.Mask.{Scene, noise_leaves, term_holds, numbered}
use Rattle.plain_terms.specs.Numbering.{noise_count, IsLeft}

-- all terms hold, numbered from a number on
abbrev hold : ℕ → Scene → Pos → List Term → Bool
hold first scene p terms = list_all (λ n. term_holds n.1 n.0 scene p) (numbered first terms)

-- before the first term all are left
pub terms_start : (terms : List Term) (first : ℕ) (scene : Scene) (p : Pos) → first + noise_count terms ≤ 16 → IsLeft terms first scene p 0 first
terms_start terms first scene p few = record { same = refl; few = few }

-- what is left begins with the next term
one_left : (terms : List Term) (first : ℕ) (scene : Scene) (p : Pos) (count number : ℕ) (term : Term) → IsLeft terms first scene p count number → count < length terms → term ≡ get_or terms count term
    → hold first scene p terms ≡ (term_holds term number scene p && hold (number + noise_leaves term.leaf) scene p (drop (suc count) terms))
one_left terms first scene p count number term left within is =
    left.same
    ∙ ap (hold number scene p) (drop-cons terms count term within)
    ∙ ap (λ (t : Term). hold number scene p (t ∷ drop (suc count) terms)) (sym is)

-- and its noise leaves are few
pub left_few : (terms : List Term) (first : ℕ) (scene : Scene) (p : Pos) (count number : ℕ) (term : Term) → IsLeft terms first scene p count number → count < length terms → term ≡ get_or terms count term
    → number + (noise_leaves term.leaf + noise_count (drop (suc count) terms)) ≤ 16
left_few terms first scene p count number term left within is =
    subst (λ (t : Term). number + noise_count (t ∷ drop (suc count) terms) ≤ 16) (sym is)
    (subst (λ (ts : List Term). number + noise_count ts ≤ 16) (drop-cons terms count term within) left.few)

-- a term that holds is passed
pub terms_more : (terms : List Term) (first : ℕ) (scene : Scene) (p : Pos) (count number : ℕ) (term : Term) → IsLeft terms first scene p count number → count < length terms → term ≡ get_or terms count term
    → term_holds term number scene p ≡ true → IsLeft terms first scene p (count + 1) (number + noise_leaves term.leaf)
terms_more terms first scene p count number term left within is holds =
    let next : suc count ≡ count + 1 = omega arith in
    subst (λ (n : ℕ). IsLeft terms first scene p n (number + noise_leaves term.leaf)) next (record {
      same = one_left terms first scene p count number term left within is
          ∙ ap (λ (b : Bool). b && hold (number + noise_leaves term.leaf) scene p (drop (suc count) terms)) holds;
      few = omega (arith, left_few terms first scene p count number term left within is);
    })

-- one that doesn't decides
pub terms_fail : (terms : List Term) (first : ℕ) (scene : Scene) (p : Pos) (count number : ℕ) (term : Term) → IsLeft terms first scene p count number → count < length terms → term ≡ get_or terms count term
    → term_holds term number scene p ≡ false → list_all (λ n. term_holds n.1 n.0 scene p) (numbered first terms) ≡ false
terms_fail terms first scene p count number term left within is holds =
    one_left terms first scene p count number term left within is
    ∙ ap (λ (b : Bool). b && hold (number + noise_leaves term.leaf) scene p (drop (suc count) terms)) holds

-- after the last all have held
pub terms_done : (terms : List Term) (first : ℕ) (scene : Scene) (p : Pos) (count number : ℕ) → IsLeft terms first scene p count number → count ≡ length terms
    → list_all (λ n. term_holds n.1 n.0 scene p) (numbered first terms) ≡ true
terms_done terms first scene p count number left all = left.same ∙ ap (hold number scene p) (drop_all count terms (omega (arith, all)))
