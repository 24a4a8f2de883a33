-- Properties sorted by key: what sorting keeps, and that a map of keys and values may be done before or after it.
use Rattle.std.proofs.Common.{◌≡◌, ℕ, ◌+◌, ◌≤◌, Bool, true, false, ◌&&◌, cond, T, List, [], ◌∷◌, length, map, Some, None, refl, sym, ap, ◌∙◌, subst, arith}
use Rattle.std.specs.Prelude.{nat_le, option_map}
use Rattle.std.specs.List.{list_all}
use Rattle.std.proofs.Common.{Ordering, Less, Equal, Greater}
use Rattle.std.specs.Ordering.{nat_cmp, is_lt, is_eq, eq_by_cmp}
use Rattle.std.specs.Cmp.{tied_itself}
use Rattle.std.specs.Cmp.Lexicographic.{slice_cmp}
use Rattle.std.specs.FinMap.{slice_cmp-IsAntisymmetric, nat_cmp-IsAntisymmetric}
use Rattle.std.specs.FinMap.Entries.{find, is_sorted, below_all, by_order, is_sorted-put, find-put, same_entries}
use Rattle.std.proofs.lemmas.Cmp.{nat_list_cmp_total}
use Rattle.std.specs.Prelude.{bytes_eq}
use Rattle.std.specs.Option.{option_or}
use Rattle.std.specs.List as list
use Rattle.std.specs.List.Sorted.{IsPermutation}
use Rattle.std.proofs.lemmas.List.Sorted.{IsPermutation-refl, IsPermutation-sym, IsPermutation-trans, IsPermutation-cons, IsPermutation-middle}
use Rattle.std.proofs.lemmas.Slice.Eq.{bytes_eq-Decides}
use Rattle.std.proofs.lemmas.Map.Text.{is_eq-slice_cmp}
use Rattle.std.proofs.lemmas.Bool.{and_parts, and_from, leb-true, le-leb, both_ways, cond-true, cond-false}
use Rattle.edit_terms.specs.StateText.{is_property, is_below_first, is_rising, is_properties, put_property, with_properties, sorted_properties, property_of}

abbrev pub Pairs : Type 0
Pairs = List (List ℕ × List ℕ)

-- the order of keys
abbrev pub by_key : List ℕ → List ℕ → Ordering
by_key = slice_cmp nat_cmp

pub one_key : (x y : List ℕ) → by_key x y ≡ Equal → x ≡ y
one_key = slice_cmp-IsAntisymmetric nat_cmp-IsAntisymmetric

pub is_so : (b : Bool) → b ≡ true → T b
is_so true h = tt
is_so false h = absurd cc

pub so_is : (b : Bool) → T b → b ≡ true
so_is true h = refl
so_is false h = absurd h

less_is : (o : Ordering) → is_lt o ≡ true → o ≡ Less
less_is Less h = refl
less_is Equal h = absurd cc
less_is Greater h = absurd cc

-- ---- rising keys

below_of_rising : (p : List ℕ × List ℕ) (ps : Pairs) → is_below_first p ps ≡ true → is_rising ps ≡ true → T (below_all by_key p.0 ps)
below_of_rising p [] h g = tt
below_of_rising p (q ∷ qs) h g =
    let parts = and_parts (is_below_first q qs) (is_rising qs) g in
    let less : by_key p.0 q.0 ≡ Less = less_is (by_key p.0 q.0) h in
    is_so _ (and_from _ _ h (so_is _ (below_far p.0 q.0 qs less (below_of_rising q qs parts.0 parts.1))))
  where
    below_far : (x y : List ℕ) (es : Pairs) → by_key x y ≡ Less → T (below_all by_key y es) → T (below_all by_key x es)
    below_far x y [] less all = tt
    below_far x y (e ∷ es) less all =
        let parts = and_parts (is_lt (by_key y e.0)) (below_all by_key y es) (so_is _ all) in
        let first : by_key x e.0 ≡ Less = nat_list_cmp_total.trans x y e.0 less (less_is (by_key y e.0) parts.0) in
        is_so _ (and_from _ _ (ap is_lt first) (so_is _ (below_far x y es less (is_so _ parts.1))))

pub sorted_from_rising : (ps : Pairs) → is_rising ps ≡ true → T (is_sorted by_key ps)
sorted_from_rising [] h = tt
sorted_from_rising (p ∷ ps) h =
    let parts = and_parts (is_below_first p ps) (is_rising ps) h in
    is_so _ (and_from _ _ (so_is _ (below_of_rising p ps parts.0 parts.1)) (so_is _ (sorted_from_rising ps parts.1)))

below_first_of : (p : List ℕ × List ℕ) (ps : Pairs) → below_all by_key p.0 ps ≡ true → is_below_first p ps ≡ true
below_first_of p [] h = refl
below_first_of p (q ∷ qs) h = (and_parts (is_lt (by_key p.0 q.0)) (below_all by_key p.0 qs) h).0

pub rising_from_sorted : (ps : Pairs) → T (is_sorted by_key ps) → is_rising ps ≡ true
rising_from_sorted [] h = refl
rising_from_sorted (p ∷ ps) h =
    let parts = and_parts (below_all by_key p.0 ps) (is_sorted by_key ps) (so_is _ h) in
    and_from _ _ (below_first_of p ps parts.0) (rising_from_sorted ps (is_so _ parts.1))

-- ---- sorting

pub with_sorted : (old ps : Pairs) → T (is_sorted by_key old) → T (is_sorted by_key (with_properties old ps))
with_sorted old [] h = h
with_sorted old (p ∷ ps) h = is_sorted-put by_key nat_list_cmp_total p.0 p.1 (with_properties old ps) (with_sorted old ps h)

-- sorting keeps what is found under a key
pub find-sorted : (q : List ℕ) (ps : Pairs) → find by_key q (sorted_properties ps) ≡ find by_key q ps
find-sorted q [] = refl
find-sorted q (p ∷ ps) = find-put by_key nat_list_cmp_total q p.0 p.1 (sorted_properties ps) ∙ ap (cond (eq_by_cmp by_key q p.0) (Some p.1)) (find-sorted q ps)

pub sorted_rising : (ps : Pairs) → is_rising ps ≡ true → sorted_properties ps ≡ ps
sorted_rising ps h = same_entries by_key nat_list_cmp_total one_key (sorted_properties ps) ps (with_sorted [] ps tt) (sorted_from_rising ps h) (λ q. find-sorted q ps)

-- two lists in which the same is found are sorted to one
pub same_sorted : (ps qs : Pairs) → ((q : List ℕ) → find by_key q ps ≡ find by_key q qs) → sorted_properties ps ≡ sorted_properties qs
same_sorted ps qs same =
    same_entries by_key nat_list_cmp_total one_key (sorted_properties ps) (sorted_properties qs) (with_sorted [] ps tt) (with_sorted [] qs tt)
    (λ q. find-sorted q ps ∙ same q ∙ sym (find-sorted q qs))

-- ---- what is true of each property, and how many there are

all_put : (test : List ℕ × List ℕ → Bool) (p : List ℕ × List ℕ) (ps : Pairs) → ((x v w : List ℕ) → test (x, v) ≡ true → by_key p.0 x ≡ Equal → test (x, w) ≡ test (p.0, w)) → test p ≡ true → list_all test ps ≡ true → list_all test (put_property p ps) ≡ true
all_put test p [] like h g = and_from _ _ h refl
all_put test p (q ∷ qs) like h g =
    let parts = and_parts (test q) (list_all test qs) g in
    elim (by_key p.0 q.0) as (λ r. by_key p.0 q.0 ≡ r → list_all test (by_order r (p ∷ q ∷ qs) ((q.0, p.1) ∷ qs) (q ∷ put_property p qs)) ≡ true) [
      | Less ↦ λ is. and_from _ _ h g
      | Equal ↦ λ is. and_from _ _ (like q.0 q.1 p.1 parts.0 is ∙ h) parts.1
      | Greater ↦ λ is. and_from _ _ parts.0 (all_put test p qs like h parts.1)
    ] refl

pub all_with : (test : List ℕ × List ℕ → Bool) (old ps : Pairs) → list_all test old ≡ true → list_all test ps ≡ true → list_all test (with_properties old ps) ≡ true
all_with test old [] h g = h
all_with test old (p ∷ ps) h g =
    let parts = and_parts (test p) (list_all test ps) g in
    all_put test p (with_properties old ps) (λ x v w _ is. ap (λ k. test (k, w)) (sym (one_key p.0 x is))) parts.0 (all_with test old ps h parts.1)

length_put : (p : List ℕ × List ℕ) (ps : Pairs) → length (put_property p ps) ≤ length ps + 1
length_put p [] = omega arith
length_put p (q ∷ qs) =
    elim (by_key p.0 q.0) as (λ r. length (by_order r (p ∷ q ∷ qs) ((q.0, p.1) ∷ qs) (q ∷ put_property p qs)) ≤ length (q ∷ qs) + 1) [
      | Less ↦ omega arith
      | Equal ↦ omega arith
      | Greater ↦ let rest = length_put p qs in omega (arith, rest)
    ]

pub length_sorted : (ps : Pairs) → length (sorted_properties ps) ≤ length ps
length_sorted [] = omega arith
length_sorted (p ∷ ps) = let one = length_put p (sorted_properties ps) in let rest = length_sorted ps in omega (arith, one, rest)

-- few properties of the form are, once sorted, properties of a state
pub formed_sorted : (ps : Pairs) → length ps ≤ 16 → list_all is_property ps ≡ true → is_properties (sorted_properties ps) ≡ true
formed_sorted ps few all =
    let short : length (sorted_properties ps) ≤ 16 = let l = length_sorted ps in omega (arith, l) in
    and_from _ _ (and_from _ _ (le-leb _ _ short) (all_with is_property [] ps refl all)) (rising_from_sorted (sorted_properties ps) (with_sorted [] ps tt))

-- what the test of a state's properties says
pub record IsFormed (ps : Pairs) : Type 0 where
  pub few : length ps ≤ 16
  pub all : list_all is_property ps ≡ true
  pub rising : is_rising ps ≡ true

pub formed : (ps : Pairs) → is_properties ps ≡ true → IsFormed ps
formed ps h =
    let first = and_parts (nat_le (length ps) 16 && list_all is_property ps) (is_rising ps) h in
    let two = and_parts (nat_le (length ps) 16) (list_all is_property ps) first.0 in
    record { few = leb-true _ _ two.0; all = two.1; rising = first.1 }

-- ---- maps of properties

-- the map sends each key to another of its own, and back names the key that was sent to a key
pub record IsKeyed (change : List ℕ × List ℕ → List ℕ × List ℕ) : Type 0 where
  pub key : List ℕ → List ℕ
  pub value : List ℕ → List ℕ → List ℕ
  pub back : List ℕ → List ℕ
  pub is : (p : List ℕ × List ℕ) → change p ≡ (key p.0, value p.0 p.1)
  pub sent : (k : List ℕ) → key (back k) ≡ k
  pub named : (k : List ℕ) → back (key k) ≡ k

tie_moves : (change : List ℕ × List ℕ → List ℕ × List ℕ) (k : IsKeyed change) (q x : List ℕ) → eq_by_cmp by_key q (k.key x) ≡ eq_by_cmp by_key (k.back q) x
tie_moves change k q x = both_answers _ _
    (λ h. let e : q ≡ k.key x = one_key _ _ (equal_is (by_key q (k.key x)) h) in tie (k.back q) x (ap k.back e ∙ k.named x))
    (λ h. let e : k.back q ≡ x = one_key _ _ (equal_is (by_key (k.back q) x) h) in tie q (k.key x) (sym (k.sent q) ∙ ap k.key e))
  where
    equal_is : (o : Ordering) → is_eq o ≡ true → o ≡ Equal
    equal_is Less h = absurd cc
    equal_is Equal h = refl
    equal_is Greater h = absurd cc

    tie : (x y : List ℕ) → x ≡ y → eq_by_cmp by_key x y ≡ true
    tie x y e = subst (λ z. eq_by_cmp by_key x z ≡ true) e (ap is_eq (tied_itself nat_list_cmp_total x))

    both_answers : (s t : Bool) → (s ≡ true → t ≡ true) → (t ≡ true → s ≡ true) → s ≡ t
    both_answers true t f g = sym (f refl)
    both_answers false true f g = g refl
    both_answers false false f g = refl

find-map : (change : List ℕ × List ℕ → List ℕ × List ℕ) (k : IsKeyed change) (q : List ℕ) (ps : Pairs) → find by_key q (map change ps) ≡ option_map (k.value (k.back q)) (find by_key (k.back q) ps)
find-map change k q [] = refl
find-map change k q (p ∷ ps) =
    ap (λ (r : List ℕ × List ℕ). cond (eq_by_cmp by_key q r.0) (Some r.1) (find by_key q (map change ps))) (k.is p)
    ∙ (λ i. cond (tie_moves change k q p.0 i) (Some (k.value p.0 p.1)) (find-map change k q ps i))
    ∙ at_tie (eq_by_cmp by_key (k.back q) p.0) refl
  where
    equal_is : (o : Ordering) → is_eq o ≡ true → o ≡ Equal
    equal_is Less h = absurd cc
    equal_is Equal h = refl
    equal_is Greater h = absurd cc

    at_tie : (b : Bool) → eq_by_cmp by_key (k.back q) p.0 ≡ b → cond b (Some (k.value p.0 p.1)) (option_map (k.value (k.back q)) (find by_key (k.back q) ps)) ≡ option_map (k.value (k.back q)) (cond b (Some p.1) (find by_key (k.back q) ps))
    at_tie true e = ap (λ x. Some (k.value x p.1)) (sym (one_key (k.back q) p.0 (equal_is (by_key (k.back q) p.0) e)))
    at_tie false e = refl

-- sorted before such a map and again after it is sorted after it alone
pub sorted-map-sorted : (change : List ℕ × List ℕ → List ℕ × List ℕ) → IsKeyed change → (ps : Pairs) → sorted_properties (map change (sorted_properties ps)) ≡ sorted_properties (map change ps)
sorted-map-sorted change k ps = same_sorted _ _
    (λ q. find-map change k q (sorted_properties ps) ∙ ap (option_map (k.value (k.back q))) (find-sorted (k.back q) ps) ∙ sym (find-map change k q ps))

-- ---- sorting moves properties, and replaces values

put-IsPermutation : (p : List ℕ × List ℕ) (ps : Pairs) → find by_key p.0 ps ≡ None → IsPermutation (p ∷ ps) (put_property p ps)
put-IsPermutation p [] none = IsPermutation-refl (p ∷ [])
put-IsPermutation p (q ∷ qs) none =
    elim (by_key p.0 q.0) as (λ r. cond (is_eq r) (Some q.1) (find by_key p.0 qs) ≡ None → IsPermutation (p ∷ q ∷ qs) (by_order r (p ∷ q ∷ qs) ((q.0, p.1) ∷ qs) (q ∷ put_property p qs))) [
      | Less ↦ λ e. IsPermutation-refl (p ∷ q ∷ qs)
      | Equal ↦ λ e. absurd cc
      | Greater ↦ λ e. IsPermutation-trans (p ∷ q ∷ qs) (q ∷ p ∷ qs) (q ∷ put_property p qs)
          (IsPermutation-sym (q ∷ p ∷ qs) (p ∷ q ∷ qs) (IsPermutation-middle (q ∷ []) p qs)) (IsPermutation-cons q (p ∷ qs) (put_property p qs) (put-IsPermutation p qs e))
    ] none

pub sorted_more : (p : List ℕ × List ℕ) (ps : Pairs) → find by_key p.0 ps ≡ None → IsPermutation ps (sorted_properties ps) → IsPermutation (p ∷ ps) (sorted_properties (p ∷ ps))
sorted_more p ps none h = IsPermutation-trans (p ∷ ps) (p ∷ sorted_properties ps) (sorted_properties (p ∷ ps)) (IsPermutation-cons p ps (sorted_properties ps) h) (put-IsPermutation p (sorted_properties ps) (find-sorted p.0 ps ∙ none))

-- the value of a key, by the order of keys
pub property_of-find : (ps : Pairs) (key : List ℕ) → property_of ps key ≡ find by_key key ps
property_of-find [] key = refl
property_of-find (p ∷ ps) key =
    elim (bytes_eq p.0 key) as (λ b. bytes_eq p.0 key ≡ b → option_map (λ (q : List ℕ × List ℕ). q.1) (cond b (Some p) (list.find (λ q. bytes_eq q.0 key) ps)) ≡ cond (eq_by_cmp by_key key p.0) (Some p.1) (find by_key key ps)) [
      | true ↦ λ e. sym (cond-true _ _ _ (is_eq-slice_cmp key p.0 ∙ (bytes_eq-Decides key p.0).1 (sym ((bytes_eq-Decides p.0 key).0 e))))
      | false ↦ λ e. property_of-find ps key ∙ sym (cond-false _ _ _ (is_eq-slice_cmp key p.0 ∙ apart e))
    ] refl
  where
    apart : bytes_eq p.0 key ≡ false → bytes_eq key p.0 ≡ false
    apart e = elim (bytes_eq key p.0) as (λ b. bytes_eq key p.0 ≡ b → b ≡ false) [
      | true ↦ λ f. absurd (both_ways (bytes_eq p.0 key) e ((bytes_eq-Decides p.0 key).1 (sym ((bytes_eq-Decides key p.0).0 f))))
      | false ↦ λ f. refl
    ] refl

find-with : (old ps : Pairs) (q : List ℕ) → find by_key q (with_properties old ps) ≡ option_or (find by_key q ps) (find by_key q old)
find-with old [] q = refl
find-with old (p ∷ ps) q =
    find-put by_key nat_list_cmp_total q p.0 p.1 (with_properties old ps)
    ∙ ap (cond (eq_by_cmp by_key q p.0) (Some p.1)) (find-with old ps q)
    ∙ elim (eq_by_cmp by_key q p.0) as (λ b. cond b (Some p.1) (option_or (find by_key q ps) (find by_key q old)) ≡ option_or (cond b (Some p.1) (find by_key q ps)) (find by_key q old)) [ true ↦ refl | false ↦ refl ]

-- the value of a key among properties that were replaced or added
pub property_of-with : (old ps : Pairs) (key : List ℕ) → property_of (with_properties old ps) key ≡ option_or (property_of ps key) (property_of old key)
property_of-with old ps key =
    property_of-find (with_properties old ps) key ∙ find-with old ps key ∙ sym (λ i. option_or (property_of-find ps key i) (property_of-find old key i))

pub rising_with : (old ps : Pairs) → is_rising old ≡ true → is_rising (with_properties old ps) ≡ true
rising_with old ps h = rising_from_sorted (with_properties old ps) (with_sorted old ps (sorted_from_rising old h))
