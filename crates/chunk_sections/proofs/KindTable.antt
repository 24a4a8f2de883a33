-- The table from kinds to numbers: what it says of a kind is the kind's number, and goes on being so as the palette
-- grows.
use Rattle.std.proofs.Common.{◌≡◌, ℕ, zero, suc, ◌<◌, Bool, true, false, List, [], ◌∷◌, ◌++◌, length, take, drop, get_or, set, replicate, Option, Some, None, slice_get, refl, sym, ap, subst, ◌∙◌, arith, ◌⊎◌, ◌≢◌, ◌≤◌, inl, inr}
use Rattle.std.specs.Cmp.{IsEquivalence}
use Rattle.std.specs.List.{list_any, AllByRecursion, IsDistinct}
use Rattle.std.proofs.lemmas.List.{take-append-drop, get_or-set_same, get_or-set_other, get_or-replicate, get_or_past, set_past, length-replicate}
use Rattle.std.proofs.lemmas.Bool.{cases_eq, cases_lt}
use Rattle.std.proofs.Math.Bool.{or-true}
use Rattle.edit_terms.specs.StateText.{State, air}
use Rattle.edit_terms.specs.Same.{same_state, state_equivalence}
use Rattle.block_palette.specs.Numbering.{number_in, with_entry}
use Rattle.chunk_sections.specs.Table.{IsTable}

-- what stands at a place stands there in any list that begins so
slice_get-append : {A : Type 0} (ds ys : List A) (n : ℕ) (e : A) → slice_get ds n ≡ Some e → slice_get (ds ++ ys) n ≡ Some e
slice_get-append [] ys n e h = absurd cc
slice_get-append (d ∷ ds) ys zero e h = h
slice_get-append (d ∷ ds) ys (suc n) e h = slice_get-append ds ys n e h

module _ {A : Type 0} {same : A → A → Bool} (laws : IsEquivalence same) where
  told_apart : (d : A) (ds : List A) (s : A) (n : ℕ) → AllByRecursion (λ y. same d y ≡ false) ds → slice_get ds n ≡ Some s → same d s ≡ false
  told_apart d [] s n h e = absurd cc
  told_apart d (y ∷ ds) s zero h e = let p : y ≡ s = cc in subst (λ (z : A). same d z ≡ false) p h.0
  told_apart d (y ∷ ds) s (suc n) h e = told_apart d ds s n h.1 e

  -- the item at a place of a list of distinct items has that place as its number
  pub number_of_place : (ds : List A) (s : A) (n : ℕ) → IsDistinct same ds → slice_get ds n ≡ Some s → number_in same ds s ≡ n
  unfolding IsDistinct
  number_of_place [] s n h e = absurd cc
  number_of_place (d ∷ ds) s zero h e = let p : d ≡ s = cc in let q : same s d ≡ true = subst (λ (z : A). same s z ≡ true) (sym p) (laws.refl s) in rw q refl
  number_of_place (d ∷ ds) s (suc n) h e =
      let q : same s d ≡ false = laws.symm s d ∙ told_apart d ds s n h.0 e in
      let r : number_in same ds s ≡ n = number_of_place ds s n h.1 e in
      rw q (omega arith)

  -- and it is found
  pub found_at_place : (ds : List A) (s : A) (n : ℕ) → slice_get ds n ≡ Some s → list_any (same s) ds ≡ true
  found_at_place [] s n e = absurd cc
  found_at_place (d ∷ ds) s zero e = let p : d ≡ s = cc in let q : same s d ≡ true = subst (λ (z : A). same s z ≡ true) (sym p) (laws.refl s) in rw q refl
  found_at_place (d ∷ ds) s (suc n) e = rw (found_at_place ds s n e) (or-true (same s d))

same_laws : IsEquivalence same_state
same_laws = state_equivalence

-- a kind that the table knows
pub known_number : (kinds palette : List State) (table : List (Option ℕ)) (kind n : ℕ) → IsTable kinds palette table → get_or table kind None ≡ Some n → n ≡ number_in same_state palette (get_or kinds kind air)
known_number kinds palette table kind n h e = sym (number_of_place same_laws palette _ n h.unique (h.right kind n e))

pub known_entries : (kinds palette : List State) (table : List (Option ℕ)) (kind n : ℕ) → IsTable kinds palette table → get_or table kind None ≡ Some n → palette ≡ with_entry same_state palette (get_or kinds kind air)
known_entries kinds palette table kind n h e = let f = found_at_place same_laws palette _ n (h.right kind n e) in rw f refl

-- the table with the number of one more kind, in a palette that has grown
pub table_set : (kinds palette grown : List State) (table : List (Option ℕ)) (kind n : ℕ) → IsTable kinds palette table → IsDistinct same_state grown → take (length palette) grown ≡ palette
    → slice_get grown n ≡ Some (get_or kinds kind air) → IsTable kinds grown (set table kind (Some n))
table_set kinds palette grown table kind n h unique kept there = record { unique = unique; right = λ k m e. at k m (cases_eq k kind) (cases_lt kind (length table)) e }
  where
    longer : grown ≡ palette ++ drop (length palette) grown
    longer = sym (take-append-drop (length palette) grown) ∙ ap (λ (ds : List State). ds ++ drop (length palette) grown) kept

    kept_right : (k m : ℕ) → get_or table k None ≡ Some m → slice_get grown m ≡ Some (get_or kinds k air)
    kept_right k m before = ap (λ (ds : List State). slice_get ds m) longer ∙ slice_get-append palette (drop (length palette) grown) m _ (h.right k m before)

    at : (k m : ℕ) → (k ≡ kind) ⊎ (k ≢ kind) → (kind < length table) ⊎ (length table ≤ kind) → get_or (set table kind (Some n)) k None ≡ Some m → slice_get grown m ≡ Some (get_or kinds k air)
    at k m (inl same) (inl inside) e =
        let own : Some n ≡ Some m = sym (ap (λ (i : ℕ). get_or (set table kind (Some n)) i None) same ∙ get_or-set_same table kind (Some n) None inside) ∙ e in
        let number : n ≡ m = cc in
        ap (slice_get grown) (sym number) ∙ there ∙ ap (λ (i : ℕ). Some (get_or kinds i air)) (sym same)
    at k m (inr other) _ e = kept_right k m (sym (get_or-set_other table kind k (Some n) None other) ∙ e)
    at k m (inl same) (inr past) e = kept_right k m (sym (ap (λ (t : List (Option ℕ)). get_or t k None) (set_past table kind (Some n) past)) ∙ e)

-- at first no kind is known
pub table_empty : (kinds palette : List State) (n : ℕ) → palette ≡ [] → IsTable kinds palette (replicate n None)
unfolding IsDistinct
table_empty kinds palette n empty = record {
  unique = subst (IsDistinct same_state) (sym empty) tt;
  right = λ k m e. absurd (none k m (cases_lt k n) e);
}
  where
    none : (k m : ℕ) → (k < n) ⊎ (n ≤ k) → get_or (replicate {A = Option ℕ} n None) k None ≡ Some m → ⊥
    none k m (inl lt) e = let z : get_or (replicate {A = Option ℕ} n None) k None ≡ None = get_or-replicate n k None None lt in cc
    none k m (inr le) e = let z : get_or (replicate {A = Option ℕ} n None) k None ≡ None = get_or_past (replicate n None) k None (let long : length (replicate {A = Option ℕ} n None) ≡ n = length-replicate n None in omega arith) in cc
