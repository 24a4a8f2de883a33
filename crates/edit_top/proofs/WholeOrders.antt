-- A whole order is as long as all scripts together.
use Rattle.std.proofs.Common.{◌≡◌, ℕ, zero, suc, ◌+◌, ◌<◌, true, false, Bool, cond, eqb, ltb, List, [], ◌∷◌, length, refl, sym, ap, ◌∙◌, inl, inr, arith}
use Rattle.std.specs.Prelude.{sum_by, All}
use Rattle.std.specs.List.{range_with_len}
use Rattle.std.proofs.lemmas.Bool.{cases_lt, lt-ltb, le-ltb, eq-eqb, ne_eqb}
use Rattle.std.proofs.lemmas.List.Elements.{All-head, All-tail}
use Rattle.std.proofs.lemmas.List.Sums.{sum_by-cons}
use Rattle.edit_terms.specs.declared.script.Script.{Script}
use Rattle.run_terms.specs.Order.{turns_of, lines_of, IsWholeOrder}
use Rattle.run_terms.proofs.OrderLemmas.{players_of_whole}
use Rattle.run_terms.proofs.Tickets.{turns_of-cons}
use Rattle.edit_top.proofs.DrillCounts.{sum_agrees, sum_more}

-- 1 for a number below n, else 0
abbrev is_below : ℕ → ℕ → ℕ
is_below n p = cond (ltb p n) 1 0

-- how many numbers of a list are below n
abbrev below : ℕ → List ℕ → ℕ
below n xs = sum_by (is_below n) xs

counts : (p n : ℕ) (old new same : Bool) → ltb p n ≡ old → ltb p (n + 1) ≡ new → eqb p n ≡ same → cond new 1 0 ≡ cond old 1 0 + cond same 1 0 → is_below (n + 1) p ≡ is_below n p + cond (eqb p n) 1 0
counts p n old new same is_old is_new is_same sum =
    ap (λ (b : Bool). cond b 1 0) is_new ∙ sum ∙ ap (λ (b : Bool). cond b 1 0 + cond same 1 0) (sym is_old) ∙ ap (λ (b : Bool). is_below n p + cond b 1 0) (sym is_same)

one_more : (p n : ℕ) → is_below (n + 1) p ≡ is_below n p + cond (eqb p n) 1 0
one_more p n =
    elim (cases_lt p n) [
      | inl less ↦ counts p n true true false (lt-ltb p n less) (lt-ltb p (n + 1) (omega (arith, less))) (ne_eqb p n (λ e. omega (arith, e, less))) refl
      | inr past ↦ elim (cases_lt n p) [
        | inl more ↦ counts p n false false false (le-ltb p n past) (le-ltb p (n + 1) (omega (arith, more))) (ne_eqb p n (λ e. omega (arith, e, more))) refl
        | inr last ↦
            let same : p ≡ n = omega (arith, past, last) in
            counts p n false true true (le-ltb p n past) (lt-ltb p (n + 1) (omega (arith, same))) (eq-eqb p n same) refl
      ]
    ]

-- below n + 1 are those below n and those that are n
below_more : (n : ℕ) (xs : List ℕ) → below (n + 1) xs ≡ below n xs + turns_of n xs
below_more n [] = refl
below_more n (x ∷ xs) =
    omega (arith, sum_by-cons (is_below (n + 1)) x xs, sum_by-cons (is_below n) x xs, turns_of-cons n x xs, one_more x n, below_more n xs)

none_below : (xs : List ℕ) → below 0 xs ≡ 0
none_below [] = refl
none_below (x ∷ xs) =
    let head : is_below 0 x ≡ 0 = ap (λ (b : Bool). cond b 1 0) (le-ltb x 0 (omega arith)) in
    omega (arith, sum_by-cons (is_below 0) x xs, head, none_below xs)

turns_below : (xs : List ℕ) (n : ℕ) → sum_by (λ player. turns_of player xs) (range_with_len 0 n) ≡ below n xs
turns_below xs zero = sym (none_below xs)
turns_below xs (suc n) =
    let next : suc n ≡ n + 1 = omega arith in
    ap (λ (m : ℕ). sum_by (λ player. turns_of player xs) (range_with_len 0 m)) next
    ∙ sum_more (λ player. turns_of player xs) n
    ∙ ap (λ (s : ℕ). s + turns_of n xs) (turns_below xs n)
    ∙ sym (below_more n xs)
    ∙ ap (λ (m : ℕ). below m xs) (sym next)

all_below : (n : ℕ) (xs : List ℕ) → All (λ p. p < n) xs → below n xs ≡ length xs
all_below n [] all = refl
all_below n (x ∷ xs) all =
    let head : is_below n x ≡ 1 = ap (λ (b : Bool). cond b 1 0) (lt-ltb x n (All-head (λ p. p < n) x xs all)) in
    omega (arith, sum_by-cons (is_below n) x xs, head, all_below n xs (All-tail (λ p. p < n) x xs all))

pub length_of_whole : (scripts : List Script) (order : List ℕ) → IsWholeOrder scripts order → length order ≡ sum_by (λ player. length (lines_of scripts player)) (range_with_len 0 (length scripts))
length_of_whole scripts order whole =
    sym (all_below (length scripts) order (players_of_whole scripts order whole))
    ∙ sym (turns_below order (length scripts))
    ∙ sum_agrees (λ player. turns_of player order) (λ player. length (lines_of scripts player)) (length scripts) (λ player inside. whole player)
