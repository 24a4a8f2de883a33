-- A tally of numbers while it is made.
use Rattle.std.proofs.Common.{◌≡◌, ℕ, ◌+◌, ◌<◌, ◌^◌, true, List, length, get_or, take, set, sym, ap, ◌∙◌, inl, inr, arith, get_or-set_other, length-take}
use Rattle.std.specs.Prelude.{count_by, nat_lt, ◌==◌}
use Rattle.std.specs.List.{list_all}
use Rattle.std.proofs.lemmas.Bool.{cases_eq, ltb-true, eq-eqb, ne_eqb}
use Rattle.std.proofs.lemmas.Grind.{get_or-set_at, get_or_default_zero}
use Rattle.std.proofs.lemmas.List.{length-set}
use Rattle.std.proofs.lemmas.List.Sums.{AllPass-from_list_all, count_by-le-length, count_by_more_yes, count_by_more_no}

-- the kinds of the numbers so far are counted
pub record Tallied (kinds : ℕ) (seen counts : List ℕ) : Type 0 where
  pub whole : length counts ≡ kinds
  pub each : (kind : ℕ) → kind < kinds → get_or counts kind 0 ≡ count_by (λ n. n == kind) seen

-- each of the numbers is below the number of kinds
number_below : (kinds : ℕ) (numbers : List ℕ) (i : ℕ) → list_all (λ n. nat_lt n kinds) numbers ≡ true → i < length numbers → get_or numbers i 0 < kinds
number_below kinds numbers i below within = ltb-true _ _ (AllPass-from_list_all (λ (n : ℕ). nat_lt n kinds) numbers below i 0 within)

module _ (kinds : ℕ) (numbers counts : List ℕ) (i count : ℕ) (tallied : Tallied kinds (take i numbers) counts) (below : list_all (λ n. nat_lt n kinds) numbers ≡ true) (within : i < length numbers) (read : count ≡ get_or counts (get_or numbers i 0) count) where
  -- the count that stands for the next number
  count_is : count ≡ count_by (λ n. n == get_or numbers i 0) (take i numbers)
  count_is =
      let small = number_below kinds numbers i below within in
      let inside : get_or numbers i 0 < length counts = omega (arith, small, tallied.whole) in
      read ∙ get_or_default_zero counts (get_or numbers i 0) count inside ∙ tallied.each (get_or numbers i 0) small

  -- one more fits
  pub count_fits : length numbers < 2 ^ 63 → count + 1 < 2 ^ 64
  count_fits few = omega (arith, count_is, count_by-le-length (λ (n : ℕ). n == get_or numbers i 0) (take i numbers), length-take i numbers)

  counted_same : (kind : ℕ) → kind < kinds → get_or numbers i 0 ≡ kind → get_or (set counts (get_or numbers i 0) (count + 1)) kind 0 ≡ count_by (λ n. n == kind) (take (i + 1) numbers)
  counted_same kind small same =
      let inside : get_or numbers i 0 < length counts = omega (arith, small, same, tallied.whole) in
      get_or-set_at counts (get_or numbers i 0) kind (count + 1) 0 (sym same) inside
      ∙ ap (λ (n : ℕ). n + 1) (count_is ∙ ap (λ (k : ℕ). count_by (λ (n : ℕ). n == k) (take i numbers)) same)
      ∙ sym (count_by_more_yes (λ (n : ℕ). n == kind) numbers i 0 within (eq-eqb (get_or numbers i 0) kind same))

  counted_other : (kind : ℕ) → kind < kinds → (get_or numbers i 0 ≡ kind → ⊥) → get_or (set counts (get_or numbers i 0) (count + 1)) kind 0 ≡ count_by (λ n. n == kind) (take (i + 1) numbers)
  counted_other kind small other =
      get_or-set_other counts (get_or numbers i 0) kind (count + 1) 0 (λ h. other (sym h))
      ∙ tallied.each kind small
      ∙ sym (count_by_more_no (λ (n : ℕ). n == kind) numbers i 0 within (ne_eqb (get_or numbers i 0) kind other))

  -- the next number is counted
  pub tallied_more : Tallied kinds (take (i + 1) numbers) (set counts (get_or numbers i 0) (count + 1))
  tallied_more = record {
    whole = length-set counts (get_or numbers i 0) (count + 1) ∙ tallied.whole;
    each = λ kind small. elim (cases_eq (get_or numbers i 0) kind) [
      | inl same ↦ counted_same kind small same
      | inr other ↦ counted_other kind small other
    ];
  }
