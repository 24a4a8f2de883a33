-- A world has one census.
use Rattle.std.proofs.Common.{◌≡◌, ℕ, true, T, List, [], ◌∷◌, map, Less, refl, sym, ap, ◌∙◌, subst, inl, inr}
use Rattle.std.specs.Prelude.{bytes_eq}
use Rattle.std.specs.Cmp.Lexicographic.{slice_cmp, nat_list_cmp_total}
use Rattle.std.specs.FinMap.{slice_cmp-IsAntisymmetric, nat_cmp-IsAntisymmetric}
use Rattle.std.specs.FinMap.Entries.{find, is_sorted, below_all, same_entries}
use Rattle.std.specs.List.{AllByRecursion}
use Rattle.std.specs.List.Sorted.{IsStrictlySortedBy}
use Rattle.std.specs.Ordering.{nat_cmp, is_lt}
use Rattle.std.proofs.lemmas.Bool.{cases_Bool, and_from}
use Rattle.std.proofs.lemmas.Map.Text.{is_eq-slice_cmp}
use Rattle.edit_terms.specs.World.{World}
use Rattle.state_counts.specs.Counts.{IsCensus, count_beside}

-- a text below each text of a census is below each entry
below_entries : (text : List ℕ) (census : List (List ℕ × ℕ)) → AllByRecursion (λ y. slice_cmp nat_cmp text y ≡ Less) (map {A = List ℕ × ℕ} (λ (e : List ℕ × ℕ). e.0) census) → below_all (slice_cmp nat_cmp) text census ≡ true
below_entries text [] h = refl
below_entries text (e ∷ es) h = and_from _ _ (ap is_lt h.0) (below_entries text es h.1)

-- a census whose texts rise is a sorted list of entries
sorted_entries : (census : List (List ℕ × ℕ)) → IsStrictlySortedBy (slice_cmp nat_cmp) (map {A = List ℕ × ℕ} (λ (e : List ℕ × ℕ). e.0) census) → is_sorted (slice_cmp nat_cmp) census ≡ true
unfolding IsStrictlySortedBy
sorted_entries [] h = refl
sorted_entries (e ∷ es) h = and_from _ _ (below_entries e.0 es h.0) (sorted_entries es h.1)

-- the count beside a text is found by the order of texts
beside_found : (text : List ℕ) (census : List (List ℕ × ℕ)) → count_beside census text ≡ find (slice_cmp nat_cmp) text census
beside_found text [] = refl
beside_found text (e ∷ es) = elim (cases_Bool (bytes_eq text e.0)) [
  | inl same ↦ rw (same, is_eq-slice_cmp text e.0 ∙ same) refl
  | inr differ ↦ rw (differ, is_eq-slice_cmp text e.0 ∙ differ) (beside_found text es)
]

-- two censuses of a world are the same list
pub census_is_unique : (w : World) (a b : List (List ℕ × ℕ)) → IsCensus w a → IsCensus w b → a ≡ b
census_is_unique w a b first second =
    same_entries (slice_cmp nat_cmp) nat_list_cmp_total (slice_cmp-IsAntisymmetric nat_cmp-IsAntisymmetric) a b (subst T (sym (sorted_entries a first.rising)) tt) (subst T (sym (sorted_entries b second.rising)) tt)
    (λ text. sym (beside_found text a) ∙ first.counts text ∙ sym (second.counts text) ∙ beside_found text b)
