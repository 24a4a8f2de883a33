-- Lists of consecutive numbers: what a search finds and a test keeps of them.
use Rattle.std.proofs.Common.{◌≡◌, ℕ, zero, suc, ◌+◌, ◌-◌, ◌<◌, ◌≤◌, Bool, true, false, ◌&&◌, List, [], ◌∷◌, ◌++◌, Some, None, inl, inr, refl, sym, ◌∙◌, ap, subst, arith, append_assoc}
use Rattle.std.specs.Prelude.{map, nat_le, nat_lt}
use Rattle.std.specs.List.{range_with_len, find, filter}
use Rattle.std.proofs.lemmas.Bool.{cases_lt}
use Rattle.std.proofs.lemmas.Bool.Decides.{nat_tests}
use Rattle.std.proofs.lemmas.List.{append-nil}
use Rattle.std.proofs.lemmas.List.Elements.{filter-append}

-- ---- searches

pub find_none : {X : Type 0} (test : X → Bool) (f : ℕ → X) (a n : ℕ) → ((k : ℕ) → a ≤ k → k < a + n → test (f k) ≡ false) → find test (map f (range_with_len a n)) ≡ None
find_none test f a zero h = refl
find_none test f a (suc n) h = rw (h a (omega arith) (omega arith)) (find_none test f (a + 1) n (λ k low high. h k (omega (arith, low)) (omega (arith, high))))

pub find_first : {X : Type 0} (test : X → Bool) (f : ℕ → X) (a n k : ℕ) → a ≤ k → k < a + n → ((j : ℕ) → a ≤ j → j < k → test (f j) ≡ false) → test (f k) ≡ true
    → find test (map f (range_with_len a n)) ≡ Some (f k)
find_first test f a zero k low high h is = absurd (omega (arith, low, high))
find_first test f a (suc n) k low high h is = elim (cases_lt a k) [
  | inl later ↦ (rw (h a (omega arith) later) (find_first test f (a + 1) n k (omega (arith, later)) (omega (arith, high)) (λ j from to. h j (omega (arith, from)) to) is))
  | inr not_later ↦ (let e : k ≡ a = omega (arith, low, not_later) in
      let here : test (f a) ≡ true = subst (λ (j : ℕ). test (f j) ≡ true) e is in
      rw here (ap (λ (j : ℕ). Some (f j)) (sym e)))
]

-- one more number that a test fails at
pub fails_more : (test : ℕ → Bool) (a n : ℕ) → ((k : ℕ) → a ≤ k → k < n → test k ≡ false) → test n ≡ false → (k : ℕ) → a ≤ k → k < n + 1 → test k ≡ false
fails_more test a n before here k low high = elim (cases_lt k n) [
  | inl earlier ↦ before k low earlier
  | inr not_earlier ↦ (let e : n ≡ k = omega (arith, high, not_earlier) in subst (λ (j : ℕ). test j ≡ false) e here)
]

-- ---- consecutive numbers in two parts

pub range-append : (a m n : ℕ) → range_with_len a (m + n) ≡ range_with_len a m ++ range_with_len (a + m) n
range-append a zero n =
    let e : 0 + n ≡ n = omega arith in
    let f : a + 0 ≡ a = omega arith in
    rw (e, f) refl
range-append a (suc m) n =
    let e : suc m + n ≡ suc (m + n) = omega arith in
    let f : a + suc m ≡ a + 1 + m = omega arith in
    rw (e, f) (ap (λ xs. a ∷ xs) (range-append (a + 1) m n))

-- one more number of a run that stands behind a list
pub run_more : (before : List ℕ) (a k : ℕ) → a ≤ k → before ++ range_with_len a (k + 1 - a) ≡ (before ++ range_with_len a (k - a)) ++ k ∷ []
run_more before a k h =
    let size : k + 1 - a ≡ k - a + 1 = omega (arith, h) in
    let place : a + (k - a) ≡ k = omega (arith, h) in
    ap (λ (n : ℕ). before ++ range_with_len a n) size
    ∙ ap (λ ns. before ++ ns) (range-append a (k - a) 1 ∙ ap (λ (n : ℕ). range_with_len a (k - a) ++ n ∷ []) place)
    ∙ sym (append_assoc before (range_with_len a (k - a)) (k ∷ []))

-- ---- what a test keeps of consecutive numbers

pub kept_all : (test : ℕ → Bool) (a n : ℕ) → ((k : ℕ) → k < n → test (a + k) ≡ true) → filter test (range_with_len a n) ≡ range_with_len a n
kept_all test a zero h = refl
kept_all test a (suc n) h =
    let here : test a ≡ true = subst (λ (m : ℕ). test m ≡ true) (omega arith) (h 0 (omega arith)) in
    rw here (ap (λ xs. a ∷ xs) (kept_all test (a + 1) n (λ k below. subst (λ (m : ℕ). test m ≡ true) (omega arith) (h (k + 1) (omega (arith, below))))))

pub kept_none : (test : ℕ → Bool) (a n : ℕ) → ((k : ℕ) → k < n → test (a + k) ≡ false) → filter test (range_with_len a n) ≡ []
kept_none test a zero h = refl
kept_none test a (suc n) h =
    let here : test a ≡ false = subst (λ (m : ℕ). test m ≡ false) (omega arith) (h 0 (omega arith)) in
    rw here (kept_none test (a + 1) n (λ k below. subst (λ (m : ℕ). test m ≡ false) (omega arith) (h (k + 1) (omega (arith, below)))))

-- a test that holds from one offset up to another keeps the run between them
pub kept_run : (test : ℕ → Bool) (a n from to : ℕ) → from ≤ n → to ≤ n → ((k : ℕ) → k < n → test (a + k) ≡ (nat_le from k && nat_lt k to))
    → filter test (range_with_len a n) ≡ range_with_len (a + from) (to - from)
kept_run test a n from to first last h = elim (cases_lt from to) [
  | inl some ↦ (
      let parts : n ≡ from + (to - from + (n - to)) = omega (arith, some, last) in
      let middle : a + from + (to - from) ≡ a + to = omega (arith, some) in
      let front : filter test (range_with_len a from) ≡ [] = kept_none test a from (λ k below. h k (omega (arith, below, first)) ∙ before from to k below) in
      let run : filter test (range_with_len (a + from) (to - from)) ≡ range_with_len (a + from) (to - from) =
      kept_all test (a + from) (to - from) (λ k below. subst (λ (m : ℕ). test m ≡ true) (omega arith) (h (from + k) (omega (arith, below, last, some)) ∙ between from to k (omega (arith, below, some)))) in
      let back : filter test (range_with_len (a + to) (n - to)) ≡ [] =
      kept_none test (a + to) (n - to) (λ k below. subst (λ (m : ℕ). test m ≡ false) (omega arith) (h (to + k) (omega (arith, below, last)) ∙ behind from to k)) in
      ap (λ (m : ℕ). filter test (range_with_len a m)) parts
      ∙ ap (filter test) (range-append a from (to - from + (n - to)))
      ∙ filter-append test (range_with_len a from) (range_with_len (a + from) (to - from + (n - to)))
      ∙ ap (λ xs. xs ++ filter test (range_with_len (a + from) (to - from + (n - to)))) front
      ∙ ap (filter test) (range-append (a + from) (to - from) (n - to))
      ∙ filter-append test (range_with_len (a + from) (to - from)) (range_with_len (a + from + (to - from)) (n - to))
      ∙ ap (λ xs. xs ++ filter test (range_with_len (a + from + (to - from)) (n - to))) run
      ∙ ap (λ xs. range_with_len (a + from) (to - from) ++ xs) (ap (λ (m : ℕ). filter test (range_with_len m (n - to))) middle ∙ back)
      ∙ append-nil (range_with_len (a + from) (to - from)))
  | inr none ↦ (
      let size : 0 ≡ to - from = omega (arith, none) in
      kept_none test a n (λ k below. h k below ∙ never from to k none) ∙ ap (range_with_len (a + from)) size)
]
  where
    before : (from to k : ℕ) → k < from → (nat_le from k && nat_lt k to) ≡ false
    before from to k h = grind (arith, nat_tests)

    between : (from to k : ℕ) → from + k < to → (nat_le from (from + k) && nat_lt (from + k) to) ≡ true
    between from to k h = grind (arith, nat_tests)

    behind : (from to k : ℕ) → (nat_le from (to + k) && nat_lt (to + k) to) ≡ false
    behind from to k = grind (arith, nat_tests)

    never : (from to k : ℕ) → to ≤ from → (nat_le from k && nat_lt k to) ≡ false
    never from to k h = grind (arith, nat_tests)
