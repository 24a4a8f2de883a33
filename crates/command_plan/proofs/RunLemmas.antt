-- Runs of numbers that are filtered.
use Rattle.std.proofs.Common.{◌≡◌, ℕ, zero, suc, ◌+◌, ◌-◌, ◌*◌, ◌/◌, ◌%◌, ◌<◌, ◌≤◌, Bool, true, false, cond, ◌&&◌, ◌||◌, List, [], ◌∷◌, ◌++◌, length, refl, sym, ◌∙◌, ap, arith}
use Rattle.std.specs.Prelude.{filter}
use Rattle.std.specs.List.{range_with_len}
use Rattle.std.proofs.lemmas.List.{append-nil}
use Rattle.std.proofs.lemmas.List.Elements.{filter-append}

pub range_split : (a m n : ℕ) → range_with_len a (m + n) ≡ range_with_len a m ++ range_with_len (a + m) n
range_split a zero n = let e : 0 + n ≡ n = omega arith in let f : a + 0 ≡ a = omega arith in rw (e, f) refl
range_split a (suc m) n =
    let e : suc m + n ≡ suc (m + n) = omega arith in
    let f : a + suc m ≡ a + 1 + m = omega arith in
    ap (λ (k : ℕ). range_with_len a k) e
    ∙ ap (λ (ks : List ℕ). a ∷ ks) (range_split (a + 1) m n)
    ∙ ap (λ (k : ℕ). a ∷ range_with_len (a + 1) m ++ range_with_len k n) (sym f)

-- ---- what a filter keeps

module _ (p : ℕ → Bool) where
  dropped : (a : ℕ) (xs ys : List ℕ) (b : Bool) → b ≡ false → xs ≡ ys → cond b (a ∷ xs) xs ≡ ys
  dropped a xs ys b fails same = rw fails same

  kept : (a : ℕ) (xs ys : List ℕ) (b : Bool) → b ≡ true → xs ≡ ys → cond b (a ∷ xs) xs ≡ a ∷ ys
  kept a xs ys b passes same = rw passes (ap (λ (zs : List ℕ). a ∷ zs) same)

  pub filter_none : (a n : ℕ) → ((k : ℕ) → a ≤ k → k < a + n → p k ≡ false) → filter p (range_with_len a n) ≡ []
  filter_none a zero fails = refl
  filter_none a (suc n) fails =
      dropped a (filter p (range_with_len (a + 1) n)) [] (p a) (fails a (omega arith) (omega arith))
      (filter_none (a + 1) n (λ k low high. fails k (omega (arith, low)) (omega (arith, high))))

  pub filter_all : (a n : ℕ) → ((k : ℕ) → a ≤ k → k < a + n → p k ≡ true) → filter p (range_with_len a n) ≡ range_with_len a n
  filter_all a zero passes = refl
  filter_all a (suc n) passes =
      kept a (filter p (range_with_len (a + 1) n)) (range_with_len (a + 1) n) (p a) (passes a (omega arith) (omega arith))
      (filter_all (a + 1) n (λ k low high. passes k (omega (arith, low)) (omega (arith, high))))

  pub filter_split : (a m n : ℕ) → filter p (range_with_len a (m + n)) ≡ filter p (range_with_len a m) ++ filter p (range_with_len (a + m) n)
  filter_split a m n = ap (filter p) (range_split a m n) ∙ filter-append p (range_with_len a m) (range_with_len (a + m) n)

  -- what lies before b and what lies from b + m on is dropped
  pub trim : (a n b m : ℕ) → a ≤ b → b + m ≤ a + n → ((k : ℕ) → a ≤ k → k < b → p k ≡ false) → ((k : ℕ) → b + m ≤ k → k < a + n → p k ≡ false)
      → filter p (range_with_len a n) ≡ filter p (range_with_len b m)
  trim a n b m from to before behind =
      let front = b - a in
      let rest = a + n - (b + m) in
      let whole : n ≡ front + (m + rest) = omega (arith, from, to) in
      let start : a + front ≡ b = omega (arith, from) in
      ap (λ (k : ℕ). filter p (range_with_len a k)) whole
      ∙ filter_split a front (m + rest)
      ∙ ap (λ (xs : List ℕ). xs ++ filter p (range_with_len (a + front) (m + rest))) (filter_none a front (λ k low high. before k low (omega (arith, high, from))))
      ∙ ap (λ (k : ℕ). filter p (range_with_len k (m + rest))) start
      ∙ filter_split b m rest
      ∙ ap (λ (xs : List ℕ). filter p (range_with_len b m) ++ xs) (filter_none (b + m) rest (λ k low high. behind k low (omega (arith, high, from, to))))
      ∙ append-nil (filter p (range_with_len b m))

-- two tests that agree keep the same
pub filter_agrees : (p q : ℕ → Bool) (a n : ℕ) → ((k : ℕ) → a ≤ k → k < a + n → p k ≡ q k) → filter p (range_with_len a n) ≡ filter q (range_with_len a n)
filter_agrees p q a zero same = refl
filter_agrees p q a (suc n) same =
    let rest = filter_agrees p q (a + 1) n (λ k low high. same k (omega (arith, low)) (omega (arith, high))) in
    ap (λ (b : Bool). cond b (a ∷ filter p (range_with_len (a + 1) n)) (filter p (range_with_len (a + 1) n))) (same a (omega arith) (omega arith))
    ∙ ap (λ (xs : List ℕ). cond (q a) (a ∷ xs) xs) rest

-- what passes one of two tests, and what passes both
pub filter_either : (p q : ℕ → Bool) (xs : List ℕ)
    → length (filter (λ k. p k || q k) xs) + length (filter (λ k. p k && q k) xs) ≡ length (filter p xs) + length (filter q xs)
filter_either p q [] = refl
filter_either p q (x ∷ xs) = by_tests (p x) (q x) (filter_either p q xs)
  where
    by_tests : (b c : Bool) → length (filter (λ k. p k || q k) xs) + length (filter (λ k. p k && q k) xs) ≡ length (filter p xs) + length (filter q xs)
        → length (cond (b || c) (x ∷ filter (λ k. p k || q k) xs) (filter (λ k. p k || q k) xs)) + length (cond (b && c) (x ∷ filter (λ k. p k && q k) xs) (filter (λ k. p k && q k) xs))
        ≡ length (cond b (x ∷ filter p xs) (filter p xs)) + length (cond c (x ∷ filter q xs) (filter q xs))
    by_tests true true h = omega (arith, h)
    by_tests true false h = omega (arith, h)
    by_tests false true h = omega (arith, h)
    by_tests false false h = h
