-- A state's properties in another order: they are sorted to the state's, each key stands once, and each is of the
-- form. What is found under a key is the same before and after, since the state's keys rise.
use Rattle.std.proofs.Common.{Less, Equal, Greater, ◌≡◌, ℕ, zero, suc, ◌+◌, ◌<◌, ◌≤◌, true, false, cond, List, [], ◌∷◌, ◌++◌, length, get_or, Option, Some, None, refl, sym, ap, ◌∙◌, subst, arith}
use Rattle.std.specs.Prelude.{bytes_eq, is_some, Contains}
use Rattle.std.specs.Option.{unwrap_or}
use Rattle.std.specs.List.{list_all}
use Rattle.std.specs.List.Sorted.{IsPermutation}
use Rattle.std.specs.Ordering.{eq_by_cmp, is_eq, is_lt}
use Rattle.std.specs.Cmp.{tied_itself}
use Rattle.std.specs.FinMap.Entries.{find, is_sorted, below_all, length-put, same_entries}
use Rattle.std.proofs.lemmas.Cmp.{nat_list_cmp_total}
use Rattle.std.proofs.lemmas.Bool.{and_parts, and_from, or_from, or_left, or_right, both_ways, not_from_false}
use Rattle.std.proofs.lemmas.List.Folds.{list_any-append}
use Rattle.std.proofs.lemmas.List.Sums.{AllPass-from_list_all, list_all-from_AllPass}
use Rattle.std.proofs.lemmas.List.Sorted.{IsPermutation-sym, Contains-permutation, All-permutation, length_permutation}
use Rattle.std.proofs.lemmas.Slice.Eq.{bytes_eq-Decides}
use Rattle.edit_terms.specs.StateText.{is_property, is_rising, has_key, is_each_key_new, sorted_properties}
use Rattle.edit_terms.proofs.PropertyLemmas.{Pairs, by_key, one_key, IsFormed, find-sorted, length_sorted, sorted_from_rising, with_sorted, so_is}

tied : (q : List ℕ) → eq_by_cmp by_key q q ≡ true
tied q = ap is_eq (tied_itself nat_list_cmp_total q)

equal_keys : (q k : List ℕ) → eq_by_cmp by_key q k ≡ true → q ≡ k
equal_keys q k h = elim (by_key q k) as (λ r. by_key q k ≡ r → is_eq r ≡ true → q ≡ k) [
  | Less ↦ λ e i. absurd cc
  | Equal ↦ λ e i. one_key q k e
  | Greater ↦ λ e i. absurd cc
] refl h

-- what is found stands in the list
found_stands : (q w : List ℕ) (ps : Pairs) → find by_key q ps ≡ Some w → Contains ps (q, w)
found_stands q w [] h = absurd cc
found_stands q w (p ∷ ps) h =
    elim (eq_by_cmp by_key q p.0) as (λ b. eq_by_cmp by_key q p.0 ≡ b → cond b (Some p.1) (find by_key q ps) ≡ Some w → Contains (p ∷ ps) (q, w)) [
      | true ↦ λ e f. let key = equal_keys q p.0 e in let value : p.1 ≡ w = ap (λ (o : Option (List ℕ)). unwrap_or o w) f in (0, omega arith, λ i. (sym key i, value i))
      | false ↦ λ e f. let rest = found_stands q w ps f in let within = rest.1 in (suc rest.0, omega (arith, within), rest.2)
    ] refl h

-- a key that stands in a list behind a lower one is not that one
behind_lower : (x q w : List ℕ) (ps : Pairs) → below_all by_key x ps ≡ true → (k : ℕ) → k < length ps → get_or ps k (q, w) ≡ (q, w) → is_lt (by_key x q) ≡ true
behind_lower x q w [] h k within at = absurd (omega (arith, within))
behind_lower x q w (p ∷ ps) h zero within at =
    let parts = and_parts (is_lt (by_key x p.0)) (below_all by_key x ps) h in
    subst (λ (r : List ℕ × List ℕ). is_lt (by_key x r.0) ≡ true) at parts.0
behind_lower x q w (p ∷ ps) h (suc k) within at =
    let parts = and_parts (is_lt (by_key x p.0)) (below_all by_key x ps) h in
    behind_lower x q w ps parts.1 k (omega (arith, within)) at

-- in a list of rising keys, what stands there is found
standing_found : (q w : List ℕ) (ps : Pairs) → is_sorted by_key ps ≡ true → (k : ℕ) → k < length ps → get_or ps k (q, w) ≡ (q, w) → find by_key q ps ≡ Some w
standing_found q w [] up k within at = absurd (omega (arith, within))
standing_found q w (p ∷ ps) up zero within at =
    subst (λ (r : List ℕ × List ℕ). cond (eq_by_cmp by_key q r.0) (Some r.1) (find by_key q ps) ≡ Some w) (sym at) (ap (λ b. cond b (Some w) (find by_key q ps)) (tied q))
standing_found q w (p ∷ ps) up (suc k) within at =
    let parts = and_parts (below_all by_key p.0 ps) (is_sorted by_key ps) up in
    let later : k < length ps = omega (arith, within) in
    let lower : is_lt (by_key p.0 q) ≡ true = behind_lower p.0 q w ps parts.0 k later at in
    elim (eq_by_cmp by_key q p.0) as (λ b. eq_by_cmp by_key q p.0 ≡ b → cond b (Some p.1) (find by_key q ps) ≡ Some w) [
      | true ↦ λ e. absurd (both_ways (is_lt (by_key p.0 p.0)) (ap is_lt (tied_itself nat_list_cmp_total p.0)) (subst (λ x. is_lt (by_key p.0 x) ≡ true) (equal_keys q p.0 e) lower))
      | false ↦ λ e. standing_found q w ps parts.1 k later at
    ] refl

-- a key that stands in a list has a value there
standing_some : (q w : List ℕ) (ps : Pairs) (k : ℕ) → k < length ps → get_or ps k (q, w) ≡ (q, w) → is_some (find by_key q ps) ≡ true
standing_some q w [] k within at = absurd (omega (arith, within))
standing_some q w (p ∷ ps) zero within at =
    subst (λ (r : List ℕ × List ℕ). is_some (cond (eq_by_cmp by_key q r.0) (Some r.1) (find by_key q ps)) ≡ true) (sym at) (ap (λ b. is_some (cond b (Some w) (find by_key q ps))) (tied q))
standing_some q w (p ∷ ps) (suc k) within at =
    elim (eq_by_cmp by_key q p.0) as (λ b. is_some (cond b (Some p.1) (find by_key q ps)) ≡ true) [ true ↦ refl | false ↦ standing_some q w ps k (omega (arith, within)) at ]

-- what is found is the same in every order
same_found : (xs ys : Pairs) → IsPermutation xs ys → is_rising ys ≡ true → (q : List ℕ) → find by_key q xs ≡ find by_key q ys
same_found xs ys moved up q =
    elim (find by_key q xs) as (λ (o : Option (List ℕ)). find by_key q xs ≡ o → o ≡ find by_key q ys) [
      | Some w ↦ λ e. let there = Contains-permutation xs ys (q, w) moved (found_stands q w xs e) in sym (standing_found q w ys (so_is _ (sorted_from_rising ys up)) there.0 there.1 there.2)
      | None ↦ λ e. elim (find by_key q ys) as (λ (o : Option (List ℕ)). find by_key q ys ≡ o → None ≡ o) [
        | Some w ↦ λ f. let there = Contains-permutation ys xs (q, w) (IsPermutation-sym xs ys moved) (found_stands q w ys f) in
            absurd (both_ways (is_some (find by_key q xs)) (ap is_some e) (standing_some q w xs there.0 there.1 there.2))
        | None ↦ λ f. refl
      ] refl
    ] refl

pub sorted-permutation : (xs ys : Pairs) → IsPermutation xs ys → is_rising ys ≡ true → sorted_properties xs ≡ ys
sorted-permutation xs ys moved up =
    same_entries by_key nat_list_cmp_total one_key (sorted_properties xs) ys (with_sorted [] xs tt) (sorted_from_rising ys up) (λ q. find-sorted q xs ∙ same_found xs ys moved up q)

-- ---- each key stands once

missed_key : (q : List ℕ) (ps : Pairs) → find by_key q ps ≡ None → has_key ps q ≡ false
missed_key q [] h = refl
missed_key q (p ∷ ps) h =
    elim (eq_by_cmp by_key q p.0) as (λ b. eq_by_cmp by_key q p.0 ≡ b → cond b (Some p.1) (find by_key q ps) ≡ None → has_key (p ∷ ps) q ≡ false) [
      | true ↦ λ e f. absurd cc
      | false ↦ λ e f. or_from _ _ (elim (bytes_eq p.0 q) as (λ b. bytes_eq p.0 q ≡ b → b ≡ false) [
        | true ↦ λ g. absurd (both_ways (eq_by_cmp by_key q p.0) e (subst (λ x. eq_by_cmp by_key q x ≡ true) (sym ((bytes_eq-Decides p.0 q).0 g)) (tied q)))
        | false ↦ λ g. refl
      ] refl) (missed_key q ps f)
    ] refl h

-- where sorting loses nothing, no key stands twice
pub each_new : (earlier ps : Pairs) → length (sorted_properties ps) ≡ length ps → ((k : List ℕ) → has_key ps k ≡ true → has_key earlier k ≡ false) → is_each_key_new earlier ps ≡ true
each_new earlier [] kept apart = refl
each_new earlier (p ∷ ps) kept apart =
    let own : has_key (p ∷ ps) p.0 ≡ true = or_left _ _ ((bytes_eq-Decides p.0 p.0).1 refl) in
    let most = length_sorted ps in
    let grown : cond (is_some (find by_key p.0 (sorted_properties ps))) (length (sorted_properties ps)) (length (sorted_properties ps) + 1) ≡ suc (length ps) = sym (length-put by_key nat_list_cmp_total p.0 p.1 (sorted_properties ps) (with_sorted [] ps tt)) ∙ kept in
    let none : find by_key p.0 (sorted_properties ps) ≡ None =
    elim (find by_key p.0 (sorted_properties ps)) as (λ (o : Option (List ℕ)). cond (is_some o) (length (sorted_properties ps)) (length (sorted_properties ps) + 1) ≡ suc (length ps) → o ≡ None) [
      | Some w ↦ λ g. absurd (omega (arith, g, most))
      | None ↦ λ g. refl
    ] grown in
    let rest : length (sorted_properties ps) ≡ length ps = let g = sym (ap (λ (o : Option (List ℕ)). cond (is_some o) (length (sorted_properties ps)) (length (sorted_properties ps) + 1)) none) ∙ grown in omega (arith, g) in
    let missed : has_key ps p.0 ≡ false = missed_key p.0 ps (sym (find-sorted p.0 ps) ∙ none) in
    and_from _ _ (not_from_false _ (apart p.0 own)) (each_new (earlier ++ p ∷ []) ps rest (λ k has.
    list_any-append (λ q. bytes_eq q.0 k) earlier (p ∷ [])
    ∙ or_from _ _ (apart k (or_right _ _ has)) (or_from _ _ (elim (bytes_eq p.0 k) as (λ b. bytes_eq p.0 k ≡ b → b ≡ false) [
      | true ↦ λ e. absurd (both_ways (has_key ps p.0) missed (subst (λ x. has_key ps x ≡ true) (sym ((bytes_eq-Decides p.0 k).0 e)) has))
      | false ↦ λ e. refl
    ] refl) refl)))

-- what a state's properties in another order are
pub record IsListing (xs ys : Pairs) : Type 0 where
  pub sorted : sorted_properties xs ≡ ys
  pub distinct : is_each_key_new [] xs ≡ true
  pub formed : list_all is_property xs ≡ true
  pub few : length xs ≤ 16

pub listing : (xs ys : Pairs) → IsPermutation xs ys → IsFormed ys → IsListing xs ys
listing xs ys moved is =
    let sorted = sorted-permutation xs ys moved is.rising in
    let count : length ys ≡ length xs = length_permutation xs ys moved in
    let kept : length (sorted_properties xs) ≡ length xs = ap (λ (l : Pairs). length l) sorted ∙ count in
    let most = is.few in
    record {
      sorted = sorted;
      distinct = each_new [] xs kept (λ k has. refl);
      formed = list_all-from_AllPass is_property xs (All-permutation (λ p. is_property p ≡ true) ys xs (IsPermutation-sym xs ys moved) (AllPass-from_list_all is_property ys is.all));
      few = omega (arith, most, count);
    }
