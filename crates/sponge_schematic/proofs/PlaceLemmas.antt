-- The table of places, entry by entry.
use Rattle.std.proofs.Common.{◌≡◌, ℕ, suc, ◌+◌, ℤ, pos, negsuc, Bool, true, false, cond, List, [], ◌∷◌, ◌++◌, length, Option, None, Some, refl, sym, ap, ◌∙◌, true≢false, arith}
use Rattle.std.specs.Prelude.{◌==◌, is_some, position}
use Rattle.std.specs.Option.{option_or}
use Rattle.std.specs.List.{position_from}
use Rattle.std.specs.Ordering.{int_eq}
use Rattle.std.specs.Cmp.{signed_Decides}
use Rattle.std.proofs.lemmas.Bool.{eqb-true, eqb-false}
use Rattle.std.proofs.lemmas.Iterator.Adapters.{position_from-zero}
use Rattle.sponge_schematic.specs.declared.places.Table.{Table}
use Rattle.sponge_schematic.specs.BlockData.{place_of}
use Rattle.sponge_schematic.specs.Places.{natural, place_in, IsPut, IsTableOf}

-- the first place of a list with one more item
position_from-push : {A : Type 0} (p : A → Bool) (i : ℕ) (xs : List A) (x : A) → position_from p i (xs ++ x ∷ []) ≡ option_or (position_from p i xs) (cond (p x) (Some (i + length xs)) None)
position_from-push p i [] x = by (p x)
  where
    by : (b : Bool) → cond b (Some i) None ≡ cond b (Some (i + 0)) None
    by true = ap Some (omega arith)
    by false = refl
position_from-push p i (y ∷ xs) x = by (p y) (position_from-push p (i + 1) xs x)
  where
    shift : (b : Bool) → cond b (Some ((i + 1) + length xs)) None ≡ cond b (Some (i + suc (length xs))) None
    shift true = ap Some (omega arith)
    shift false = refl

    by : (b : Bool) → position_from p (i + 1) (xs ++ x ∷ []) ≡ option_or (position_from p (i + 1) xs) (cond (p x) (Some ((i + 1) + length xs)) None)
        → cond b (Some i) (position_from p (i + 1) (xs ++ x ∷ [])) ≡ option_or (cond b (Some i) (position_from p (i + 1) xs)) (cond (p x) (Some (i + suc (length xs))) None)
    by true h = refl
    by false h = h ∙ ap (option_or (position_from p (i + 1) xs)) (shift (p x))

position-push : {A : Type 0} (p : A → Bool) (xs : List A) (x : A) → position p (xs ++ x ∷ []) ≡ option_or (position p xs) (cond (p x) (Some (length xs)) None)
position-push p xs x =
    position_from-zero p (xs ++ x ∷ []) ∙ position_from-push p 0 xs x
    ∙ ap (λ o. option_or o (cond (p x) (Some (0 + length xs)) None)) (sym (position_from-zero p xs))
    ∙ by (p x)
  where
    by : (b : Bool) → option_or (position p xs) (cond b (Some (0 + length xs)) None) ≡ option_or (position p xs) (cond b (Some (length xs)) None)
    by true = ap (λ n. option_or (position p xs) (Some n)) (omega arith)
    by false = refl

-- an entry whose number is another
other_number : (numbers : List ℤ) (z : ℤ) (n : ℕ) → int_eq z (pos n) ≡ false → place_of numbers n ≡ place_of (numbers ++ z ∷ []) n
other_number numbers z n h = sym (position-push (λ y. int_eq y (pos n)) numbers z ∙ ap (λ b. option_or (place_of numbers n) (cond b (Some (length numbers)) None)) h ∙ none_last (place_of numbers n))
  where
    none_last : (o : Option ℕ) → option_or o None ≡ o
    none_last None = refl
    none_last (Some k) = refl

-- an entry whose number an earlier one has
known_number : (numbers : List ℤ) (z : ℤ) (n : ℕ) → is_some (place_of numbers n) ≡ true → place_of numbers n ≡ place_of (numbers ++ z ∷ []) n
known_number numbers z n h = by (place_of numbers n) refl h
  where
    by : (o : Option ℕ) → place_of numbers n ≡ o → is_some o ≡ true → place_of numbers n ≡ place_of (numbers ++ z ∷ []) n
    by None e k = absurd (true≢false (sym k))
    by (Some m) e k = e ∙ sym (position-push (λ y. int_eq y (pos n)) numbers z ∙ ap (λ o. option_or o (cond (int_eq z (pos n)) (Some (length numbers)) None)) e)

-- an entry whose number no earlier one has
new_number : (numbers : List ℤ) (m : ℕ) → is_some (place_of numbers m) ≡ false → place_of (numbers ++ pos m ∷ []) m ≡ Some (length numbers)
new_number numbers m h = by (place_of numbers m) refl h
  where
    own : int_eq (pos m) (pos m) ≡ true
    own = (signed_Decides (pos m) (pos m)).1 refl

    by : (o : Option ℕ) → place_of numbers m ≡ o → is_some o ≡ false → place_of (numbers ++ pos m ∷ []) m ≡ Some (length numbers)
    by None e k =
        position-push (λ y. int_eq y (pos m)) numbers (pos m) ∙ ap (λ o. option_or o (cond (int_eq (pos m) (pos m)) (Some (length numbers)) None)) e
        ∙ ap (λ b. option_or None (cond b (Some (length numbers)) None)) own
    by (Some i) e k = absurd (true≢false k)

not_equal : (z : ℤ) (n : ℕ) → (z ≡ pos n → ⊥) → int_eq z (pos n) ≡ false
not_equal z n h = by (int_eq z (pos n)) refl
  where
    by : (b : Bool) → int_eq z (pos n) ≡ b → int_eq z (pos n) ≡ false
    by true e = absurd (h ((signed_Decides z (pos n)).0 e))
    by false e = e

-- a number that no varint spells changes nothing
pub unnatural-push : (table : Table) (numbers : List ℤ) (z : ℤ) → natural z ≡ None → IsTableOf table numbers → IsTableOf table (numbers ++ z ∷ [])
unnatural-push table numbers (pos m) e h = absurd (let no : Some m ≡ None = e in cc)
unnatural-push table numbers (negsuc m) e h = record { finds = λ n. h.finds n ∙ other_number numbers (negsuc m) n (not_equal (negsuc m) n (λ p. cc)) }

module _ (table : Table) (numbers : List ℤ) (z : ℤ) (m : ℕ) (is : natural z ≡ Some m) (h : IsTableOf table numbers) where
  is_pos : (y : ℤ) → natural y ≡ Some m → y ≡ pos m
  is_pos (pos k) e = ap pos (let q : Some k ≡ Some m = e in cc)
  is_pos (negsuc k) e = absurd (let no : None ≡ Some m = e in cc)

  -- a number other than the entry's
  others : (n : ℕ) → (n ≡ m → ⊥) → place_of numbers n ≡ place_of (numbers ++ z ∷ []) n
  others n ne = other_number numbers z n (not_equal z n (λ p. ne (let q : pos n ≡ pos m = sym p ∙ is_pos z is in cc)))

  -- a number that an earlier entry has changes nothing
  pub known-push : is_some (place_in table m) ≡ true → IsTableOf table (numbers ++ z ∷ [])
  known-push k = record { finds = λ n. h.finds n ∙ by n (n == m) refl }
    where
      by : (n : ℕ) (b : Bool) → (n == m) ≡ b → place_of numbers n ≡ place_of (numbers ++ z ∷ []) n
      by n true e = known_number numbers z n (ap is_some (sym (h.finds n)) ∙ ap (λ i. is_some (place_in table i)) (eqb-true n m e) ∙ k)
      by n false e = others n (eqb-false n m e)

  -- a new number gets the entry's place
  pub new-push : (new : Table) (place : ℕ) → is_some (place_in table m) ≡ false → length numbers ≡ place → IsPut table new m place → IsTableOf new (numbers ++ z ∷ [])
  new-push new place k long put = record { finds = λ n. by n (n == m) refl }
    where
      by : (n : ℕ) (b : Bool) → (n == m) ≡ b → place_in new n ≡ place_of (numbers ++ z ∷ []) n
      by n true e =
          ap (place_in new) (eqb-true n m e) ∙ put.own
          ∙ ap Some (sym long) ∙ sym (new_number numbers m (ap is_some (sym (h.finds m)) ∙ k))
          ∙ ap (λ y. place_of (numbers ++ y ∷ []) m) (sym (is_pos z is)) ∙ ap (place_of (numbers ++ z ∷ [])) (sym (eqb-true n m e))
      by n false e = put.others n e ∙ h.finds n ∙ others n (eqb-false n m e)
