-- Counts of numbers, and of the states that they stand for.
use Rattle.std.proofs.Common.{◌≡◌, ℕ, ◌+◌, Bool, true, cond, List, [], ◌∷◌, map, refl, sym, ap, ◌∙◌, inl, inr, arith}
use Rattle.std.specs.Prelude.{count_by, nat_lt, ◌==◌, ◌&&◌}
use Rattle.std.specs.List.{list_all}
use Rattle.std.proofs.lemmas.Bool.{cases_eq, cases_Bool, and_parts, le-ltb}
use Rattle.std.proofs.lemmas.Bool.Decides.{nat_tests}
use Rattle.std.proofs.lemmas.List.Sums.{sum_by-cons}

-- the first element counts where it passes
pub count_by-cons : {X : Type 0} (p : X → Bool) (x : X) (xs : List X) → count_by p (x ∷ xs) ≡ cond (p x) 1 0 + count_by p xs
count_by-cons {X} p x xs = sum_by-cons (λ (y : X). cond (p y) 1 0) x xs

-- a count over images counts what they are images of
pub count_by-map : {X Y : Type 0} (p : Y → Bool) (f : X → Y) (xs : List X) → count_by p (map f xs) ≡ count_by (λ x. p (f x)) xs
count_by-map p f [] = refl
count_by-map {X} p f (x ∷ xs) =
    count_by-cons p (f x) (map f xs) ∙ ap (λ (n : ℕ). cond (p (f x)) 1 0 + n) (count_by-map p f xs) ∙ sym (count_by-cons (λ (y : X). p (f y)) x xs)

-- a number below the next kind is below this kind or is of this kind
one_more : (f : ℕ → Bool) (k n : ℕ) → cond (nat_lt n (k + 1) && f n) 1 0 ≡ cond (nat_lt n k && f n) 1 0 + cond (f k) (cond (n == k) 1 0) 0
one_more f k n = elim (cases_eq n k) [
  | inl same ↦ let e : f n ≡ f k = ap f same in grind (arith, nat_tests)
  | inr other ↦ grind (arith, nat_tests)
]

-- one kind more that is asked for brings the numbers of that kind
pub count_below_more : (f : ℕ → Bool) (k : ℕ) (ns : List ℕ) → count_by (λ n. nat_lt n (k + 1) && f n) ns ≡ count_by (λ n. nat_lt n k && f n) ns + cond (f k) (count_by (λ n. n == k) ns) 0
count_below_more f k [] = elim (cases_Bool (f k)) [
  | inl asked ↦ rw asked refl
  | inr other ↦ rw other refl
]
count_below_more f k (n ∷ ns) =
    let front = one_more f k n in
    let rest = count_below_more f k ns in
    let now = count_by-cons (λ (m : ℕ). nat_lt m (k + 1) && f m) n ns in
    let below = count_by-cons (λ (m : ℕ). nat_lt m k && f m) n ns in
    let here = count_by-cons (λ (m : ℕ). m == k) n ns in
    elim (cases_Bool (f k)) [
      | inl asked ↦ rw asked (omega (arith, rw asked at front, rw asked at rest, now, below, here))
      | inr other ↦ rw other (omega (arith, rw other at front, rw other at rest, now, below))
    ]

-- none is below 0
pub count_below_none : (f : ℕ → Bool) (ns : List ℕ) → count_by (λ n. nat_lt n 0 && f n) ns ≡ 0
count_below_none f [] = refl
count_below_none f (n ∷ ns) = count_by-cons (λ (m : ℕ). nat_lt m 0 && f m) n ns ∙ rw (le-ltb n 0 (omega arith)) (rw (count_below_none f ns) refl)

-- all numbers are below the number of kinds
pub count_below_all : (f : ℕ → Bool) (kinds : ℕ) (ns : List ℕ) → list_all (λ n. nat_lt n kinds) ns ≡ true → count_by (λ n. nat_lt n kinds && f n) ns ≡ count_by f ns
count_below_all f kinds [] below = refl
count_below_all f kinds (n ∷ ns) below =
    let parts = and_parts (nat_lt n kinds) (list_all (λ (m : ℕ). nat_lt m kinds) ns) below in
    count_by-cons (λ (m : ℕ). nat_lt m kinds && f m) n ns ∙ rw parts.0 (ap (λ (k : ℕ). cond (f n) 1 0 + k) (count_below_all f kinds ns parts.1)) ∙ sym (count_by-cons f n ns)
