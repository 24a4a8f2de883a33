-- Prefixes of one list, and the longer of two.
use Rattle.std.proofs.Common.{◌≡◌, ℕ, ◌<◌, ◌≤◌, ltb, cond, Bool, true, false, List, [], ◌∷◌, ◌++◌, length, refl, ap, sym, ◌∙◌, arith, append_assoc}
use Rattle.std.proofs.lemmas.List.{append-nil}
use Rattle.std.proofs.lemmas.Bool.Decides.{nat_tests}
use mathlib.Core.List.{IsPrefix}
use Rattle.ticket_log.specs.Orders.{longer}

-- a list is a prefix of itself
pub prefix_self : (xs : List ℕ) → IsPrefix xs xs
prefix_self xs = ([], append-nil xs)

pub prefix_trans : (xs ys zs : List ℕ) → IsPrefix xs ys → IsPrefix ys zs → IsPrefix xs zs
prefix_trans xs ys zs p q = (p.0 ++ q.0, sym (append_assoc xs p.0 q.0) ∙ (ap (λ w. w ++ q.0) p.1 ∙ q.1))

-- a prefix stays one when more is appended
pub prefix_append : (xs ys zs : List ℕ) → IsPrefix xs ys → IsPrefix xs (ys ++ zs)
prefix_append xs ys zs p = prefix_trans xs ys (ys ++ zs) p (zs, refl)

-- of two prefixes of one list the shorter is a prefix of the longer
pub prefix_shorter : (xs ys zs : List ℕ) → IsPrefix xs zs → IsPrefix ys zs → length xs ≤ length ys → IsPrefix xs ys
prefix_shorter [] ys zs p q le = (ys, refl)
prefix_shorter (x ∷ xs) [] zs p q le = absurd (omega arith)
prefix_shorter (x ∷ xs) (y ∷ ys) [] p q le = absurd (cc (p.1))
prefix_shorter (x ∷ xs) (y ∷ ys) (z ∷ zs) p q le =
    let heads : x ≡ y = cc (p.1, q.1) in
    let rest = prefix_shorter xs ys zs (p.0, cc (p.1)) (q.0, cc (q.1)) (omega arith) in
    (rest.0, cc (heads, rest.1))

-- what holds of both lists holds of the longer
pub longer_is_one : (P : List ℕ → Type 0) (xs ys : List ℕ) → P xs → P ys → P (longer xs ys)
longer_is_one P xs ys here there = by_test (ltb (length xs) (length ys))
  where
    by_test : (test : Bool) → P (cond test ys xs)
    by_test true = there
    by_test false = here

-- two prefixes of one list are prefixes of the longer of them
pub record AreUnderLonger (xs ys : List ℕ) : Type 0 where
  pub first : IsPrefix xs (longer xs ys)
  pub second : IsPrefix ys (longer xs ys)

pub prefix_longer : (xs ys zs : List ℕ) → IsPrefix xs zs → IsPrefix ys zs → AreUnderLonger xs ys
prefix_longer xs ys zs p q = record { first = (by_test (ltb (length xs) (length ys)) refl).0; second = (by_test (ltb (length xs) (length ys)) refl).1 }
  where
    by_test : (test : Bool) → ltb (length xs) (length ys) ≡ test → IsPrefix xs (cond test ys xs) × IsPrefix ys (cond test ys xs)
    by_test true is =
        let less : length xs < length ys = grind (arith, nat_tests) in
        (prefix_shorter xs ys zs p q (omega arith), prefix_self ys)
    by_test false is =
        let more : length ys ≤ length xs = grind (arith, nat_tests) in
        (prefix_self xs, prefix_shorter ys xs zs q p more)
