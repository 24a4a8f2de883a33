-- How the distinct entries and the numbers of a list grow with one more item, in the words of `Palette::number`:
-- `distinct-push` and `numbers-push`, and for a loop by index `distinct_next` and `numbers_next`.
-- A loop that numbers one item of a list after the other, from an empty palette, keeps by them that its palette is
-- `distinct` of the items so far, and its numbers are `numbers` of them: `number_each` of the tests is one.
use Rattle.std.proofs.Common.{◌≡◌, ℕ, Bool, true, false, not, ◌||◌, List, [], ◌∷◌, ◌++◌, map, length, take, get_or, filter, Some, slice_get, position, ◌+◌, ◌<◌, ◌≤◌, arith, refl, sym, ap, ◌∙◌}
use Rattle.std.specs.List.{list_any, AllByRecursion}
use Rattle.std.specs.Cmp.{IsEquivalence}
use Rattle.std.proofs.lemmas.List.{append-nil, map-append, take_more}
use Rattle.std.proofs.lemmas.List.Elements.{filter-append}
use Rattle.std.proofs.lemmas.List.Filters.{length-filter_both}
use Rattle.std.proofs.lemmas.List.Quantifiers.{position-Some}
use Rattle.std.proofs.lemmas.Map.Views.{any-filter_same}
use Rattle.std.proofs.lemmas.Option.{slice_get-get_or}
use Rattle.block_palette.specs.Numbering.{number_in, with_entry, distinct, numbers, IsNumberOf}
use Rattle.block_palette.proofs.Places.{or-true, position_or_len-append, position_or_len-none, position_or_len-last, AllByRecursion-implied, map-alike}

-- a place that `position` answers is the number of an entry
pub number_from_position : {A : Type 0} (same : A → A → Bool) (entries : List A) (x : A) (n : ℕ) → position (same x) entries ≡ Some n → IsNumberOf same entries x n
number_from_position same entries x n h =
    let at = position-Some (same x) entries n x h in
    record { entry = get_or entries n x; there = slice_get-get_or entries n x at.0; alike = at.1 }

-- no items have no entries and no numbers
pub distinct-nil : {A : Type 0} (same : A → A → Bool) → distinct same [] ≡ []
unfolding distinct
distinct-nil same = refl

pub numbers-nil : {A : Type 0} (same : A → A → Bool) → numbers same [] ≡ []
unfolding numbers
numbers-nil same = refl

-- there are no more entries than items
pub length-distinct : {A : Type 0} (same : A → A → Bool) (xs : List A) → length (distinct same xs) ≤ length xs
unfolding distinct
length-distinct same [] = omega arith
length-distinct same (x ∷ xs) =
    let rest = length-distinct same xs in
    let parts = length-filter_both (same x) (λ y. not (same x y)) (λ y. refl) (distinct same xs) in
    omega arith

-- where the test decides equality, a number names the item itself
pub slice_get-number : {A : Type 0} (same : A → A → Bool) → ((x y : A) → same x y ≡ true → x ≡ y) → (entries : List A) (x : A) (n : ℕ) → IsNumberOf same entries x n → slice_get entries n ≡ Some x
slice_get-number same decides entries x n h = h.there ∙ ap Some (sym (decides x h.entry h.alike))

-- ---- one more item

module _ {A : Type 0} {same : A → A → Bool} (laws : IsEquivalence same) where
  -- an item that is not the same as a is found in a list with or without what is the same as a
  list_any-without : (a y : A) (ds : List A) → list_any (same y) (a ∷ filter (λ z. not (same a z)) ds) ≡ (same y a || list_any (same y) ds)
  list_any-without a y ds = by (same y a) refl
    where
      other : same y a ≡ false → (z : A) → same y z ≡ true → not (same a z) ≡ true
      other e z h = ap not (laws.symm a z ∙ sym (laws.congr y z a h) ∙ e)

      by : (b : Bool) → same y a ≡ b → list_any (same y) (a ∷ filter (λ z. not (same a z)) ds) ≡ (same y a || list_any (same y) ds)
      by true e = rw e refl
      by false e = rw e (any-filter_same (same y) (λ z. not (same a z)) true (other e) ds)

  -- to drop what is the same as a, and then to number x behind a, is to number x first
  with_entry-without : (a x : A) (ds : List A) → a ∷ filter (λ z. not (same a z)) (with_entry same ds x) ≡ with_entry same (a ∷ filter (λ z. not (same a z)) ds) x
  with_entry-without a x ds = by (same x a) (list_any (same x) ds) refl refl
    where
      by : (b c : Bool) → same x a ≡ b → list_any (same x) ds ≡ c → a ∷ filter (λ z. not (same a z)) (with_entry same ds x) ≡ with_entry same (a ∷ filter (λ z. not (same a z)) ds) x
      by b true e f = rw (list_any-without a x ds, f, or-true) refl
      by true false e f = rw (list_any-without a x ds, e, f, filter-append (λ z. not (same a z)) ds (x ∷ []), laws.symm a x, e) (ap (λ l. a ∷ l) (append-nil _))
      by false false e f = rw (list_any-without a x ds, e, f, filter-append (λ z. not (same a z)) ds (x ∷ []), laws.symm a x, e) refl

  -- the distinct entries of a list with one more item
  pub distinct-push : (xs : List A) (x : A) → distinct same (xs ++ x ∷ []) ≡ with_entry same (distinct same xs) x
  unfolding distinct
  distinct-push [] x = refl
  distinct-push (a ∷ xs) x = ap (λ ds. a ∷ filter (λ z. not (same a z)) ds) (distinct-push xs x) ∙ with_entry-without a x (distinct same xs)

  -- each item is the same as an entry
  items_found : (xs : List A) → AllByRecursion (λ y. list_any (same y) (distinct same xs) ≡ true) xs
  unfolding distinct
  items_found [] = tt
  items_found (x ∷ xs) = (ap (λ b. b || list_any (same x) (filter (λ z. not (same x z)) (distinct same xs))) (laws.refl x), AllByRecursion-implied still xs (items_found xs))
    where
      still : (y : A) → list_any (same y) (distinct same xs) ≡ true → list_any (same y) (x ∷ filter (λ z. not (same x z)) (distinct same xs)) ≡ true
      still y h = list_any-without x y (distinct same xs) ∙ ap (λ c. same y x || c) h ∙ or-true (same y x)

  -- an item that has a number keeps it when x is numbered, and x has the number that `number_in` says
  number_in-with_entry : (ds : List A) (x y : A) → list_any (same y) ds ≡ true → number_in same (with_entry same ds x) y ≡ number_in same ds y
  number_in-with_entry ds x y h = by (list_any (same x) ds) refl
    where
      by : (b : Bool) → list_any (same x) ds ≡ b → number_in same (with_entry same ds x) y ≡ number_in same ds y
      by true e = rw e refl
      by false e = rw e (position_or_len-append (same y) ds (x ∷ []) h)

  number_in-with_entry_own : (ds : List A) (x : A) → number_in same (with_entry same ds x) x ≡ number_in same ds x
  number_in-with_entry_own ds x = by (list_any (same x) ds) refl
    where
      by : (b : Bool) → list_any (same x) ds ≡ b → number_in same (with_entry same ds x) x ≡ number_in same ds x
      by true e = rw e refl
      by false e = rw e (position_or_len-last (same x) ds x e (laws.refl x) ∙ sym (position_or_len-none (same x) ds e))

  -- the numbers of a list with one more item
  pub numbers-push : (xs : List A) (x : A) → numbers same (xs ++ x ∷ []) ≡ numbers same xs ++ number_in same (distinct same xs) x ∷ []
  unfolding numbers
  numbers-push xs x =
      let ds = distinct same xs in
      let first : map (number_in same (with_entry same ds x)) xs ≡ map (number_in same ds) xs =
      map-alike _ _ xs (AllByRecursion-implied (number_in-with_entry ds x) xs (items_found xs)) in
      ap (λ es. map (number_in same es) (xs ++ x ∷ [])) (distinct-push xs x)
      ∙ map-append (number_in same (with_entry same ds x)) xs (x ∷ [])
      ∙ ap (λ ns. ns ++ number_in same (with_entry same ds x) x ∷ []) first
      ∙ ap (λ n. map (number_in same ds) xs ++ n ∷ []) (number_in-with_entry_own ds x)

  -- The same two for a loop over xs: what its turn with the item at i makes of a palette and of the numbers so far.
  module _ (xs : List A) (i : ℕ) (d : A) (old : List A) (within : i < length xs) (old_is : old ≡ distinct same (take i xs)) where
    pub distinct_next : (new : List A) → new ≡ with_entry same old (get_or xs i d) → new ≡ distinct same (take (i + 1) xs)
    distinct_next new e =
        e ∙ ap (λ ds. with_entry same ds (get_or xs i d)) old_is
        ∙ sym (ap (distinct same) (take_more xs i d within) ∙ distinct-push (take i xs) (get_or xs i d))

    pub numbers_next : (ns : List ℕ) (n : ℕ) → ns ≡ numbers same (take i xs) → n ≡ number_in same old (get_or xs i d) → ns ++ n ∷ [] ≡ numbers same (take (i + 1) xs)
    numbers_next ns n e f =
        ap (λ m. ns ++ m ∷ []) (f ∙ ap (λ ds. number_in same ds (get_or xs i d)) old_is)
        ∙ ap (λ ms. ms ++ number_in same (distinct same (take i xs)) (get_or xs i d) ∷ []) e
        ∙ sym (ap (numbers same) (take_more xs i d within) ∙ numbers-push (take i xs) (get_or xs i d))
