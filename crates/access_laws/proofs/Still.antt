-- What a job draws is the same for each ticket where its masks have no noise leaf and its pattern no choice.
use Rattle.std.proofs.Common.{◌≡◌, ℕ, ◌+◌, ◌*◌, ◌^◌, ◌<◌, ◌≤◌, Bool, true, false, cond, ltb, eqb, List, [], ◌∷◌, length, Option, Some, None, refl, sym, ap, ◌∙◌, inl, inr, arith}
use Rattle.std.specs.Prelude.{sum_by}
use Rattle.std.specs.List.{list_all}
use Rattle.std.specs.Option.{option_map_or}
use Rattle.std.proofs.lemmas.Bool.{cases_lt, leb-true, ltb-true}
use Rattle.std.proofs.lemmas.List.Sums.{sum_by-cons}
use Rattle.edit_terms.specs.declared.mask.Leaf.{Leaf}
use Rattle.edit_terms.specs.declared.mask.Leaf.TheVariants.{Noise, Existing, InSelection, Has, OneOf}
use Rattle.edit_terms.specs.declared.mask.Mask.{Mask}
use Rattle.edit_terms.specs.declared.mask.Term.{Term}
use Rattle.edit_terms.specs.declared.pattern.Entry.{Entry}
use Rattle.edit_terms.specs.declared.pattern.Pattern.{Pattern}
use Rattle.edit_terms.specs.declared.step.Spec.{Spec}
use Rattle.edit_terms.specs.declared.step.Step.TheVariants.{Job}
use Rattle.edit_terms.specs.declared.step.Work.{Work}
use Rattle.edit_terms.specs.declared.step.Work.TheVariants.{Fill, Stack, Move, Copy, Cut, Paste, Put, Undo, Redo}
use Rattle.edit_terms.specs.Draw.{draw_word, pattern_use}
use Rattle.edit_terms.specs.Mask.{noise_leaves}
use Rattle.edit_terms.specs.Pattern.{chosen_entry, placed}
use Rattle.edit_terms.proofs.AreaLemmas.{and_both}
use Rattle.edit_terms.proofs.PatternLemmas.{draw_word-below, chosen_entry-one}
use Rattle.access_laws.specs.OrderFree.{is_free_of_noise, is_without_choice, is_work_still, is_still}
use Rattle.access_laws.proofs.Depends.{DrawsAlike, TermsDrawAlike, MaskDrawsAlike, PatternDrawsAlike, WorkDrawsAlike, JobDrawsAlike}

leaf_still : (seed s t : ℕ) (leaf : Leaf) → eqb (noise_leaves leaf) 0 ≡ true → DrawsAlike seed s t leaf
leaf_still seed s t (Noise chance) h = absurd cc
leaf_still seed s t Existing h = tt
leaf_still seed s t InSelection h = tt
leaf_still seed s t (Has properties) h = tt
leaf_still seed s t (OneOf states) h = tt

terms_still : (seed s t : ℕ) (terms : List Term) → list_all (λ (m : Term). eqb (noise_leaves m.leaf) 0) terms ≡ true → TermsDrawAlike seed s t terms
terms_still seed s t [] h = tt
terms_still seed s t (m ∷ terms) h =
    let parts = and_both (eqb (noise_leaves m.leaf) 0) (list_all (λ (n : Term). eqb (noise_leaves n.leaf) 0) terms) h in
    (leaf_still seed s t m.leaf parts.0, terms_still seed s t terms parts.1)

mask_still : (seed s t : ℕ) (mask : Option Mask) → option_map_or is_free_of_noise mask true ≡ true → MaskDrawsAlike seed s t mask
mask_still seed s t None h = tt
mask_still seed s t (Some mask) h = terms_still seed s t mask.terms h

-- an entry without weight is never chosen
none_chosen : (word : ℕ) (e : Entry) → e.weight ≡ 0 → chosen_entry word (e ∷ []) ≡ None
none_chosen word e none =
    let total : sum_by (λ (f : Entry). f.weight) (e ∷ []) ≡ 0 = sum_by-cons (λ (f : Entry). f.weight) e [] ∙ ap (λ (n : ℕ). n + 0) none in
    (λ i. cond (ltb (word * total i) ((0 + none i) * 2 ^ 32)) (Some e) None) ∙ ap (λ (b : Bool). cond b (Some e) None) (not_below (word * 0))
  where
    not_below : (n : ℕ) → ltb n ((0 + 0) * 2 ^ 32) ≡ false
    not_below n = by_test (ltb n ((0 + 0) * 2 ^ 32)) refl
      where
        by_test : (b : Bool) → ltb n ((0 + 0) * 2 ^ 32) ≡ b → b ≡ false
        by_test false is = refl
        by_test true is = absurd (omega (arith, ltb-true n ((0 + 0) * 2 ^ 32) is))

-- of one entry each word chooses the same
same_chosen : (first second : ℕ) → first < 2 ^ 32 → second < 2 ^ 32 → (entries : List Entry) → length entries ≤ 1 → chosen_entry first entries ≡ chosen_entry second entries
same_chosen first second a b [] few = refl
same_chosen first second a b (e ∷ []) few = elim (cases_lt 0 e.weight) [
  | inl some ↦ chosen_entry-one first e a some ∙ sym (chosen_entry-one second e b some)
  | inr none ↦ let e_none : e.weight ≡ 0 = omega (arith, none) in none_chosen first e e_none ∙ sym (none_chosen second e e_none)
]
same_chosen first second a b (e ∷ f ∷ entries) few = absurd (omega (arith, few))

pattern_still : (seed s t : ℕ) (pattern : Pattern) → is_without_choice pattern ≡ true → PatternDrawsAlike seed s t pattern
pattern_still seed s t pattern h = λ copied p old.
    ap (λ (o : Option Entry). option_map_or (λ e. placed copied p e.value old) o old)
    (same_chosen (draw_word seed s pattern_use p) (draw_word seed t pattern_use p) (draw_word-below seed s pattern_use p) (draw_word-below seed t pattern_use p) pattern.entries (leb-true (length pattern.entries) 1 h))

work_still : (seed s t : ℕ) (work : Work) → is_work_still work ≡ true → WorkDrawsAlike seed s t work
work_still seed s t (Fill region mask pattern) h =
    let parts = and_both (option_map_or is_free_of_noise mask true) (is_without_choice pattern) h in
    (mask_still seed s t mask parts.0, pattern_still seed s t pattern parts.1)
work_still seed s t (Stack from count to) h = tt
work_still seed s t (Move from count to) h = tt
work_still seed s t (Copy from) h = tt
work_still seed s t (Cut from) h = tt
work_still seed s t (Paste place skip_air) h = tt
work_still seed s t (Put at state) h = tt
work_still seed s t (Undo edits) h = tt
work_still seed s t (Redo edits) h = tt

-- a still job draws the same for two tickets, or nothing
pub job_still : (seed s t : ℕ) (spec : Spec) → is_still (Job spec) ≡ true → JobDrawsAlike seed s t spec
job_still seed s t spec h =
    let parts = and_both (option_map_or is_free_of_noise spec.global true) (is_work_still spec.work) h in
    record { global = mask_still seed s t spec.global parts.0; work = work_still seed s t spec.work parts.1 }
