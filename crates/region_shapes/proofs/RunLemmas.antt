-- Lists of consecutive numbers, and what a test keeps of them where it holds in two runs.
use Rattle.std.proofs.Common.{◌≡◌, ℕ, zero, suc, ◌+◌, ◌-◌, ◌<◌, ◌≤◌, Bool, true, false, ◌&&◌, ◌||◌, List, [], ◌∷◌, ◌++◌, refl, sym, ◌∙◌, ap, arith, append_assoc}
use Rattle.std.specs.Prelude.{map, nat_le, nat_lt}
use Rattle.std.specs.List.{range_with_len, filter}
use Rattle.std.proofs.lemmas.Bool.Decides.{nat_tests}
use Rattle.std.proofs.lemmas.List.Elements.{filter-append}
use Rattle.std.proofs.lemmas.List.{map-append, append-nil}

-- consecutive numbers in two parts
pub range-append : (a m n : ℕ) → range_with_len a (m + n) ≡ range_with_len a m ++ range_with_len (a + m) n
range-append a zero n =
    let e : 0 + n ≡ n = omega arith in
    let f : a + 0 ≡ a = omega arith in
    rw (e, f) refl
range-append a (suc m) n =
    let e : suc m + n ≡ suc (m + n) = omega arith in
    let f : a + suc m ≡ a + 1 + m = omega arith in
    rw (e, f) (ap (λ xs. a ∷ xs) (range-append (a + 1) m n))

pub range_more : (old : List ℕ) (a i : ℕ) → a ≤ i → old ++ range_with_len a (i + 1 - a) ≡ old ++ range_with_len a (i - a) ++ i ∷ []
range_more old a i h =
    let size : i + 1 - a ≡ i - a + 1 = omega (arith, h) in
    let place : a + (i - a) ≡ i = omega (arith, h) in
    ap (λ (n : ℕ). old ++ range_with_len a n) size
    ∙ ap (λ ns. old ++ ns) (range-append a (i - a) 1 ∙ ap (λ (n : ℕ). range_with_len a (i - a) ++ n ∷ []) place)
    ∙ sym (append_assoc old (range_with_len a (i - a)) (i ∷ []))

-- what a test keeps of numbers at which it holds
kept_all : {X : Type 0} (f : ℕ → X) (p : X → Bool) (a n : ℕ) → ((k : ℕ) → a ≤ k → k < a + n → p (f k) ≡ true) → filter p (map f (range_with_len a n)) ≡ map f (range_with_len a n)
kept_all f p a zero h = refl
kept_all f p a (suc n) h = rw (h a (omega arith) (omega arith)) (ap (λ xs. f a ∷ xs) (kept_all f p (a + 1) n (λ k low high. h k (omega arith) (omega arith))))

kept_none : {X : Type 0} (f : ℕ → X) (p : X → Bool) (a n : ℕ) → ((k : ℕ) → a ≤ k → k < a + n → p (f k) ≡ false) → filter p (map f (range_with_len a n)) ≡ []
kept_none f p a zero h = refl
kept_none f p a (suc n) h = rw (h a (omega arith) (omega arith)) (kept_none f p (a + 1) n (λ k low high. h k (omega arith) (omega arith)))

-- numbers in five parts: two runs, and what stands before, between and behind them
five_parts : (w a n c m : ℕ) → a + n ≤ c → c + m ≤ w
    → range_with_len 0 w ≡ range_with_len 0 a ++ (range_with_len a n ++ (range_with_len (a + n) (c - (a + n)) ++ (range_with_len c m ++ range_with_len (c + m) (w - (c + m)))))
five_parts w a n c m first second =
    let e : w ≡ a + (n + (c - (a + n) + (m + (w - (c + m))))) = omega arith in
    let s0 : 0 + a ≡ a = omega arith in
    let s2 : a + n + (c - (a + n)) ≡ c = omega arith in
    ap (λ (k : ℕ). range_with_len 0 k) e
    ∙ rw (range-append 0 a (n + (c - (a + n) + (m + (w - (c + m))))), s0, range-append a n (c - (a + n) + (m + (w - (c + m)))), range-append (a + n) (c - (a + n)) (m + (w - (c + m))), s2, range-append c m (w - (c + m))) refl

-- a number is in a run of so many numbers from the least on
abbrev pub is_in_run : ℕ → ℕ → ℕ → Bool
is_in_run a n k = nat_le a k && nat_lt k (a + n)

in_first : (a n c m k : ℕ) → a + n ≤ c → a ≤ k → k < a + n → (is_in_run a n k || is_in_run c m k) ≡ true
in_first a n c m k order low high = grind (arith, nat_tests)

in_second : (a n c m k : ℕ) → a + n ≤ c → c ≤ k → k < c + m → (is_in_run a n k || is_in_run c m k) ≡ true
in_second a n c m k order low high = grind (arith, nat_tests)

before_both : (a n c m k : ℕ) → a + n ≤ c → k < a → (is_in_run a n k || is_in_run c m k) ≡ false
before_both a n c m k order high = grind (arith, nat_tests)

between_both : (a n c m k : ℕ) → a + n ≤ k → k < c → (is_in_run a n k || is_in_run c m k) ≡ false
between_both a n c m k low high = grind (arith, nat_tests)

behind_both : (a n c m k : ℕ) → a + n ≤ c → c + m ≤ k → (is_in_run a n k || is_in_run c m k) ≡ false
behind_both a n c m k order low = grind (arith, nat_tests)

-- a test that holds in two runs keeps these
pub two_runs : {X : Type 0} (f : ℕ → X) (p : X → Bool) (w a n c m : ℕ) → a + n ≤ c → c + m ≤ w
    → ((k : ℕ) → k < w → p (f k) ≡ (is_in_run a n k || is_in_run c m k))
    → filter p (map f (range_with_len 0 w)) ≡ map f (range_with_len a n) ++ map f (range_with_len c m)
two_runs f p w a n c m order room h =
    let e0 = kept_none f p 0 a (λ k low high. h k (omega arith) ∙ before_both a n c m k order (omega arith)) in
    let e1 = kept_all f p a n (λ k low high. h k (omega arith) ∙ in_first a n c m k order low high) in
    let e2 = kept_none f p (a + n) (c - (a + n)) (λ k low high. h k (omega arith) ∙ between_both a n c m k low (omega arith)) in
    let e3 = kept_all f p c m (λ k low high. h k (omega arith) ∙ in_second a n c m k order low high) in
    let e4 = kept_none f p (c + m) (w - (c + m)) (λ k low high. h k (omega arith) ∙ behind_both a n c m k order low) in
    let A = range_with_len 0 a in
    let B = range_with_len a n in
    let C = range_with_len (a + n) (c - (a + n)) in
    let D = range_with_len c m in
    let E = range_with_len (c + m) (w - (c + m)) in
    ap (λ xs. filter p (map f xs)) (five_parts w a n c m order room)
    ∙ kept_of_five f p A B C D E (map f B) (map f D) e0 e1 e2 e3 e4
  where
    kept_of_five : {X : Type 0} (f : ℕ → X) (p : X → Bool) (A B C D E : List ℕ) (first second : List X)
        → filter p (map f A) ≡ [] → filter p (map f B) ≡ first → filter p (map f C) ≡ [] → filter p (map f D) ≡ second → filter p (map f E) ≡ []
        → filter p (map f (A ++ (B ++ (C ++ (D ++ E))))) ≡ first ++ second
    kept_of_five f p A B C D E first second e0 e1 e2 e3 e4 =
        rw (map-append f A (B ++ (C ++ (D ++ E))), map-append f B (C ++ (D ++ E)), map-append f C (D ++ E), map-append f D E)
        (rw (filter-append p (map f A) (map f B ++ (map f C ++ (map f D ++ map f E))), filter-append p (map f B) (map f C ++ (map f D ++ map f E)), filter-append p (map f C) (map f D ++ map f E), filter-append p (map f D) (map f E))
        (rw (e0, e1, e2, e3, e4) (ap (λ xs. first ++ xs) (append-nil second))))
