-- The limits of a mask, term by term.
use Rattle.std.proofs.Common.{◌≡◌, ℕ, ◌+◌, ◌≤◌, true, List, [], ◌∷◌, ◌++◌, refl, ◌∙◌, arith}
use Rattle.std.specs.Prelude.{sum_by}
use Rattle.std.specs.List.{list_all}
use Rattle.std.proofs.lemmas.List.Folds.{list_all-append}
use Rattle.std.proofs.lemmas.List.Sums.{sum_by_push}
use Rattle.std.proofs.lemmas.Bool.Decides.{nat_tests}
use Rattle.edit_terms.specs.declared.mask.Term.{Term}
use Rattle.edit_terms.specs.Mask.{noise_leaves}
use Rattle.run_terms.specs.Limits.{is_leaf_within, is_mask_within}

-- terms within the limits, of which so many are noise
pub record AreWithin (terms : List Term) (noise : ℕ) : Type 0 where
  pub counted : sum_by (λ (t : Term). noise_leaves t.leaf) terms ≡ noise
  pub few : noise ≤ 4
  pub each : list_all (λ (t : Term). is_leaf_within t.leaf) terms ≡ true

pub none_within : AreWithin [] 0
none_within = record { counted = refl; few = omega arith; each = refl }

-- one more term
pub one_within : (terms : List Term) (noise more : ℕ) (term : Term) → AreWithin terms noise → noise_leaves term.leaf ≡ more → noise + more ≤ 4 → is_leaf_within term.leaf ≡ true → AreWithin (terms ++ term ∷ []) (noise + more)
one_within terms noise more term so_far leaves few within = record {
  counted = sum_by_push (λ (t : Term). noise_leaves t.leaf) terms term ∙ cc (so_far.counted, leaves);
  few = few;
  each = list_all-append (λ (t : Term). is_leaf_within t.leaf) terms (term ∷ []) ∙ rw (so_far.each, within);
}

-- such terms make a mask
pub mask_within : (terms : List Term) (noise : ℕ) → AreWithin terms noise → is_mask_within (record { terms = terms }) ≡ true
mask_within terms noise within = rw (within.counted, within.each) (grind (arith, nat_tests, within.few))
