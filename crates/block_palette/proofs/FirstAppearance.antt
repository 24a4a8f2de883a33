-- The law of numbering by first appearance holds of the empty list, and goes on holding with one more item.
-- Where the test decides equality, it gives back the items: `slice_get-numbers`.
use Rattle.std.proofs.Common.{◌≡◌, ℕ, ◌+◌, ◌<◌, ◌≤◌, Bool, true, false, nat_lt, List, [], ◌∷◌, ◌++◌, map, length, take, get_or, Some, slice_get, Contains, All, refl, ap, subst, ◌∙◌, arith}
use borrow.Author.Tests.{ltb-true, ltb-false}
use Rattle.std.specs.List.{list_any, AllZip, IsDistinct}
use Rattle.std.specs.Cmp.{IsEquivalence}
use Rattle.std.proofs.Math.Seq.{get_or-append_seam, take-append_seam}
use Rattle.std.proofs.lemmas.List.{append-nil, append_assoc, length_push, take-append-le, get_or_append_left}
use Rattle.std.proofs.lemmas.List.Elements.{Contains-append_left, Contains-push, All-push}
use Rattle.std.proofs.lemmas.List.Sums.{prefix_len-le-length}
use Rattle.std.proofs.lemmas.Map.Keys.{IsDistinct-push}
use Rattle.block_palette.specs.Numbering.{number_in, with_entry, distinct, numbers, IsNumberOf}
use Rattle.block_palette.proofs.Places.{position_or_len-none, passes_at_place, slice_get-append, slice_get-last, AllZip-implied, AllZip-append_last, AllZip-lengths}
use Rattle.block_palette.proofs.Numbering.{slice_get-number, distinct-push, numbers-push}

-- an index of a list with one more element is an index of the list, or the last
by_index : {P : ℕ → Type 0} (n : ℕ) → ((k : ℕ) → k < n → P k) → P n → (k : ℕ) → k < n + 1 → P k
by_index {P} n below at k lt = by (nat_lt k n) refl
  where
    by : (b : Bool) → nat_lt k n ≡ b → P k
    by true e = below k (ltb-true k n e)
    by false e = let le : n ≤ k = ltb-false k n e in subst P (omega arith) at

-- what the law says of the items xs, their distinct entries ds and their numbers ns
pub record IsNumbering {A : Type 0} (same : A → A → Bool) (xs ds : List A) (ns : List ℕ) : Type 0 where
  pub unique : IsDistinct same ds
  pub among : All (Contains xs) ds
  pub named : AllZip (IsNumberOf same ds) xs ns
  pub used : (n : ℕ) → n < length ds → Contains ns n
  pub order : (k : ℕ) → k < length xs → get_or ns k 0 ≤ length (distinct same (take k xs))

module _ {A : Type 0} {same : A → A → Bool} (laws : IsEquivalence same) where
  IsNumberOf-append : (ds ys : List A) (x : A) (n : ℕ) → IsNumberOf same ds x n → IsNumberOf same (ds ++ ys) x n
  IsNumberOf-append ds ys x n h = record { entry = h.entry; there = slice_get-append ds ys n h.entry h.there; alike = h.alike }

  -- the order of the numbers, where the last item's is at most the count of the entries
  order-push : (xs : List A) (ns : List ℕ) (x : A) (n : ℕ) → length xs ≡ length ns → n ≤ length (distinct same xs)
      → ((k : ℕ) → k < length xs → get_or ns k 0 ≤ length (distinct same (take k xs)))
      → (k : ℕ) → k < length (xs ++ x ∷ []) → get_or (ns ++ n ∷ []) k 0 ≤ length (distinct same (take k (xs ++ x ∷ [])))
  order-push xs ns x n long within h k lt =
      by_index {P = λ i. get_or (ns ++ n ∷ []) i 0 ≤ length (distinct same (take i (xs ++ x ∷ [])))} (length xs) earlier last k (subst (λ m. k < m) (length_push xs x) lt)
    where
      earlier : (i : ℕ) → i < length xs → get_or (ns ++ n ∷ []) i 0 ≤ length (distinct same (take i (xs ++ x ∷ [])))
      earlier i l =
          let first = get_or_append_left ns (n ∷ []) 0 i (omega arith) in
          let cut = take-append-le i xs (x ∷ []) (omega arith) in
          rw (first, cut) (h i l)

      last : get_or (ns ++ n ∷ []) (length xs) 0 ≤ length (distinct same (take (length xs) (xs ++ x ∷ [])))
      last =
          let own : get_or (ns ++ n ∷ []) (length xs) 0 ≡ n = ap (λ i. get_or (ns ++ n ∷ []) i 0) long ∙ get_or-append_seam ns n [] 0 in
          rw (own, take-append_seam xs (x ∷ [])) within

  -- the law with an item that is the same as an entry
  IsNumbering-push_known : (xs : List A) (ns : List ℕ) (x : A) → list_any (same x) (distinct same xs) ≡ true → IsNumbering same xs (distinct same xs) ns
      → IsNumbering same (xs ++ x ∷ []) (distinct same xs) (ns ++ number_in same (distinct same xs) x ∷ [])
  IsNumbering-push_known xs ns x known h =
      let ds = distinct same xs in
      let at = passes_at_place (same x) ds known in
      record {
        unique = h.unique;
        among = λ k d lt. Contains-append_left xs (x ∷ []) _ (h.among k d lt);
        named = AllZip-append_last (IsNumberOf same ds) xs ns x _ h.named (record { entry = at.0; there = at.1; alike = at.2 });
        used = λ n lt. Contains-append_left ns _ n (h.used n lt);
        order = order-push xs ns x _ (AllZip-lengths (IsNumberOf same ds) xs ns h.named) (prefix_len-le-length _ ds) h.order;
      }

  -- the law with an item that is new
  IsNumbering-push_new : (xs : List A) (ns : List ℕ) (x : A) → list_any (same x) (distinct same xs) ≡ false → IsNumbering same xs (distinct same xs) ns
      → IsNumbering same (xs ++ x ∷ []) (distinct same xs ++ x ∷ []) (ns ++ length (distinct same xs) ∷ [])
  IsNumbering-push_new xs ns x new h =
      let ds = distinct same xs in
      record {
        unique = IsDistinct-push laws ds x h.unique new;
        among = All-push (Contains (xs ++ x ∷ [])) ds x (λ k d lt. Contains-append_left xs (x ∷ []) _ (h.among k d lt)) (Contains-push xs x);
        named = AllZip-append_last (IsNumberOf same (ds ++ x ∷ [])) xs ns x _ (AllZip-implied _ _ (IsNumberOf-append ds (x ∷ [])) xs ns h.named) (record { entry = x; there = slice_get-last ds x; alike = laws.refl x });
        used = λ n lt. by_index {P = Contains (ns ++ length ds ∷ [])} (length ds) (λ k l. Contains-append_left ns _ k (h.used k l)) (Contains-push ns (length ds)) n (subst (λ m. n < m) (length_push ds x) lt);
        order = order-push xs ns x _ (AllZip-lengths (IsNumberOf same ds) xs ns h.named) (omega arith) h.order;
      }

  -- the law with one more item
  IsNumbering-push : (xs : List A) (x : A) → IsNumbering same xs (distinct same xs) (numbers same xs) → IsNumbering same (xs ++ x ∷ []) (distinct same (xs ++ x ∷ [])) (numbers same (xs ++ x ∷ []))
  IsNumbering-push xs x h = rw (distinct-push laws xs x, numbers-push laws xs x) (by (list_any (same x) (distinct same xs)) refl)
    where
      by : (b : Bool) → list_any (same x) (distinct same xs) ≡ b → IsNumbering same (xs ++ x ∷ []) (with_entry same (distinct same xs) x) (numbers same xs ++ number_in same (distinct same xs) x ∷ [])
      by true e = rw e (IsNumbering-push_known xs (numbers same xs) x e h)
      by false e = rw (e, position_or_len-none (same x) (distinct same xs) e) (IsNumbering-push_new xs (numbers same xs) x e h)

  IsNumbering-append : (xs ys : List A) → IsNumbering same xs (distinct same xs) (numbers same xs) → IsNumbering same (xs ++ ys) (distinct same (xs ++ ys)) (numbers same (xs ++ ys))
  IsNumbering-append xs [] h = rw append-nil h
  IsNumbering-append xs (y ∷ ys) h = subst (λ zs. IsNumbering same zs (distinct same zs) (numbers same zs)) (append_assoc xs (y ∷ []) ys) (IsNumbering-append (xs ++ y ∷ []) ys (IsNumbering-push xs y h))

  -- the law
  pub IsNumbering-distinct : (xs : List A) → IsNumbering same xs (distinct same xs) (numbers same xs)
  unfolding distinct numbers IsDistinct
  IsNumbering-distinct xs = IsNumbering-append [] xs (record { unique = tt; among = λ k d lt. absurd (omega arith); named = tt; used = λ n lt. absurd (omega arith); order = λ k lt. absurd (omega arith) })

-- where the test decides equality, the items can be read back from their numbers
pub slice_get-numbers : {A : Type 0} {same : A → A → Bool} (laws : IsEquivalence same) → ((x y : A) → same x y ≡ true → x ≡ y) → (xs : List A)
    → map (slice_get (distinct same xs)) (numbers same xs) ≡ map Some xs
slice_get-numbers {A} {same} laws decides xs = each xs (numbers same xs) (IsNumbering-distinct laws xs).named
  where
    each : (ys : List A) (ns : List ℕ) → AllZip (IsNumberOf same (distinct same xs)) ys ns → map (slice_get (distinct same xs)) ns ≡ map Some ys
    each [] [] h = refl
    each [] (n ∷ ns) h = absurd h
    each (y ∷ ys) [] h = absurd h
    each (y ∷ ys) (n ∷ ns) h = λ i. slice_get-number same decides (distinct same xs) y n h.0 i ∷ each ys ns h.1 i
