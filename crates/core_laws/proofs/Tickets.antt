-- Lists of the tickets below a number, the last first: what stands in them, what is found, and the last that passes a test.
use Rattle.std.proofs.Common.{◌≡◌, ℕ, zero, suc, ◌+◌, ◌<◌, ◌≤◌, eqb, Bool, true, false, cond, ◌||◌, List, [], ◌∷◌, ◌++◌, length, map, Option, Some, None, refl, sym, ap, ◌∙◌, subst, inl, inr, arith}
use Rattle.std.specs.Prelude.{All, IfSome, reverse, filter, is_some}
use Rattle.std.specs.List.{range_with_len, list_any, find}
use Rattle.std.proofs.lemmas.Bool.{cases_lt, eq-eqb}
use Rattle.std.proofs.lemmas.List.{reverse-append}
use Rattle.std.proofs.lemmas.List.Elements.{All-nil, All-cons, All-head, All-tail, All-map, All-weaker}
use Rattle.edit_terms.specs.declared.clip.Source.{Source}
use Rattle.run_terms.specs.Order.{source_of, ticket_of}
use Rattle.run_terms.proofs.Lists.{IfSome-find, list_any-find}
use Rattle.run_terms.proofs.Tickets.{ticket_of-source_of}
use Rattle.access_laws.specs.Locality.{is_among}
use Rattle.access_laws.proofs.Chunks.{or_first, or_second}
use Rattle.access_laws.proofs.Depends.{find_passes}
use Rattle.access_laws.proofs.Parts.{same_number}
use Rattle.edit_terms.proofs.AreaLemmas.{and_both}
use Rattle.std.specs.Cmp.Derive.{both_true}
use Rattle.core_laws.specs.ChunkState.{is_same_source}
use Rattle.core_laws.specs.Serial.{tickets_below}

last_of_range : (a n j : ℕ) → a + n ≡ j → range_with_len a (suc n) ≡ range_with_len a n ++ j ∷ []
last_of_range a zero j e = ap (λ (k : ℕ). k ∷ []) (let same : a ≡ j = omega (arith, e) in same)
last_of_range a (suc n) j e = ap (λ (ks : List ℕ). a ∷ ks) (last_of_range (a + 1) n j (omega (arith, e)))

-- one ticket more stands in front
pub tickets_below-suc : (n : ℕ) → tickets_below (suc n) ≡ n ∷ tickets_below n
tickets_below-suc n = ap reverse (last_of_range 0 n n (omega arith)) ∙ reverse-append (range_with_len 0 n) (n ∷ [])

pub filter_below-suc : (test : ℕ → Bool) (n : ℕ) → filter test (tickets_below (suc n)) ≡ cond (test n) (n ∷ filter test (tickets_below n)) (filter test (tickets_below n))
filter_below-suc test n = ap (filter test) (tickets_below-suc n)

-- where no further ticket passes, the list stays
pub filter_below-same : (test : ℕ → Bool) (a end : ℕ) → a ≤ end → ((s : ℕ) → a ≤ s → s < end → test s ≡ false) → filter test (tickets_below a) ≡ filter test (tickets_below end)
filter_below-same test a zero few none = ap (λ (k : ℕ). filter test (tickets_below k)) (let e : a ≡ 0 = omega (arith, few) in e)
filter_below-same test a (suc end) few none = elim (cases_lt a (suc end)) [
  | inl below ↦
      filter_below-same test a end (omega (arith, below)) (λ s low high. none s low (omega (arith, high)))
      ∙ sym (filter_below-suc test end ∙ ap (λ (b : Bool). cond b (end ∷ filter test (tickets_below end)) (filter test (tickets_below end))) (none end (omega (arith, below)) (omega arith)))
  | inr above ↦ ap (λ (k : ℕ). filter test (tickets_below k)) (let e : a ≡ suc end = omega (arith, few, above) in e)
]

-- all are below
pub tickets_are_below : (n : ℕ) → All (λ k. k < n) (tickets_below n)
tickets_are_below zero = All-nil (λ k. k < 0)
tickets_are_below (suc n) =
    subst (λ (ks : List ℕ). All (λ k. k < suc n) ks) (sym (tickets_below-suc n))
    (All-cons (λ k. k < suc n) n (tickets_below n) (omega arith) (All-weaker (λ k. k < n) (λ k. k < suc n) (λ k below. omega (arith, below)) (tickets_below n) (tickets_are_below n)))

-- two tests that agree on a list choose the same of it
pub filter-agrees : (p q : ℕ → Bool) (ks : List ℕ) → All (λ k. p k ≡ q k) ks → filter p ks ≡ filter q ks
filter-agrees p q [] all = refl
filter-agrees p q (k ∷ ks) all =
    let here = All-head (λ m. p m ≡ q m) k ks all in
    let later = filter-agrees p q ks (All-tail (λ m. p m ≡ q m) k ks all) in
    λ i. cond (here i) (k ∷ later i) (later i)

-- ---- what stands in the list

-- the number is below, and passes
pub record IsListed (test : ℕ → Bool) (n k : ℕ) : Type 0 where
  pub below : k < n
  pub passes : test k ≡ true

pub all_listed : (test : ℕ → Bool) (n : ℕ) → All (IsListed test n) (filter test (tickets_below n))
all_listed test zero = All-nil (IsListed test zero)
all_listed test (suc n) =
    subst (λ (ks : List ℕ). All (IsListed test (suc n)) ks) (sym (filter_below-suc test n))
    (by_test (All-weaker (IsListed test n) (IsListed test (suc n)) (λ k h. record { below = omega (arith, h.below); passes = h.passes }) (filter test (tickets_below n)) (all_listed test n)) (test n) refl)
  where
    by_test : All (IsListed test (suc n)) (filter test (tickets_below n)) → (b : Bool) → test n ≡ b → All (IsListed test (suc n)) (cond b (n ∷ filter test (tickets_below n)) (filter test (tickets_below n)))
    by_test later true is = All-cons (IsListed test (suc n)) n (filter test (tickets_below n)) (record { below = omega arith; passes = is }) later
    by_test later false is = later

-- what is true of all is true of one of them
pub of_among : (P : ℕ → Type 0) (ks : List ℕ) (k : ℕ) → All P ks → is_among ks k ≡ true → P k
of_among P [] k all among = absurd cc
of_among P (x ∷ ks) k all among = by_head (of_among P ks k (All-tail P x ks all)) (eqb x k) refl among
  where
    by_head : (is_among ks k ≡ true → P k) → (b : Bool) → eqb x k ≡ b → (b || is_among ks k) ≡ true → P k
    by_head later true is h = subst P (let e : x ≡ k = grind (arith) in e) (All-head P x ks all)
    by_head later false is h = later h

pub among_listed : (test : ℕ → Bool) (n k : ℕ) → is_among (filter test (tickets_below n)) k ≡ true → IsListed test n k
among_listed test n k among = of_among (IsListed test n) (filter test (tickets_below n)) k (all_listed test n) among

-- a ticket below that passes is found by a test that holds of it
pub any_below : (g test : ℕ → Bool) (n t : ℕ) → t < n → test t ≡ true → g t ≡ true → list_any g (filter test (tickets_below n)) ≡ true
any_below g test zero t below passes h = absurd (omega (arith, below))
any_below g test (suc n) t below passes h = ap (list_any g) (filter_below-suc test n) ∙ by_test (λ less. any_below g test n t less passes h) (test n) refl
  where
    by_test : (t < n → list_any g (filter test (tickets_below n)) ≡ true) → (b : Bool) → test n ≡ b → list_any g (cond b (n ∷ filter test (tickets_below n)) (filter test (tickets_below n))) ≡ true
    by_test later true is = elim (cases_lt t n) [
      | inl less ↦ or_second (g n) (list_any g (filter test (tickets_below n))) (later less)
      | inr above ↦ or_first (g n) (list_any g (filter test (tickets_below n))) (ap g (let e : n ≡ t = omega (arith, below, above) in e) ∙ h)
    ]
    by_test later false is = elim (cases_lt t n) [
      | inl less ↦ later less
      | inr above ↦ let e : n ≡ t = omega (arith, below, above) in let k : test n ≡ true = ap test e ∙ passes in absurd cc
    ]

pub among_below : (test : ℕ → Bool) (n t : ℕ) → t < n → test t ≡ true → is_among (filter test (tickets_below n)) t ≡ true
among_below test n t below passes = any_below (λ m. eqb m t) test n t below passes (eq-eqb t t refl)

-- ---- the last ticket that passes

pub record IsLast (test : ℕ → Bool) (n p : ℕ) : Type 0 where
  pub below : p < n
  pub passes : test p ≡ true
  pub none : (s : ℕ) → p < s → s < n → test s ≡ false

abbrev pub LastIs : (ℕ → Bool) → ℕ → Option ℕ → Type 0
LastIs test n None = (s : ℕ) → s < n → test s ≡ false
LastIs test n (Some p) = IsLast test n p

pub last_is : (test : ℕ → Bool) (n : ℕ) → LastIs test n (find test (tickets_below n))
last_is test zero = λ s below. absurd (omega (arith, below))
last_is test (suc n) = subst (λ (ks : List ℕ). LastIs test (suc n) (find test ks)) (sym (tickets_below-suc n)) (by_test (test n) refl (find test (tickets_below n)) (last_is test n))
  where
    by_test : (b : Bool) → test n ≡ b → (o : Option ℕ) → LastIs test n o → LastIs test (suc n) (cond b (Some n) o)
    by_test true is o h = record { below = omega arith; passes = is; none = λ s low high. absurd (omega (arith, low, high)) }
    by_test false is None h = λ s below. elim (cases_lt s n) [
      | inl less ↦ h s less
      | inr above ↦ ap test (let e : s ≡ n = omega (arith, below, above) in e) ∙ is
    ]
    by_test false is (Some p) h = record {
      below = omega (arith, h.below);
      passes = h.passes;
      none = λ s low high. elim (cases_lt s n) [
        | inl less ↦ h.none s low less
        | inr above ↦ ap test (let e : s ≡ n = omega (arith, high, above) in e) ∙ is
      ];
    }

-- ---- what is kept of tickets, by their command ids

pub same_source-is : (a b : Source) → is_same_source a b ≡ true → a ≡ b
same_source-is a b h =
    let parts = and_both (eqb a.player b.player) (eqb a.step b.step) h in
    let player : a.player ≡ b.player = same_number a.player b.player parts.0 in
    let step : a.step ≡ b.step = same_number a.step b.step parts.1 in
    λ i. record { player = player i; step = step i }

pub same_source-own : (a b : Source) → a ≡ b → is_same_source a b ≡ true
same_source-own a b same = ap (λ (c : Source). is_same_source a c) (sym same) ∙ both_true (eq-eqb a.player a.player refl) (eq-eqb a.step a.step refl)

module _ {X : Type 0} (key : X → Source) (make : ℕ → X) (order : List ℕ) (keyed : (t : ℕ) → key (make t) ≡ source_of order t) (test : ℕ → Bool) (n : ℕ) where
  -- what a ticket below, of this command, made
  pub record IsMade (id : Source) (x : X) : Type 0 where
    pub ticket : ℕ
    pub listed : IsListed test n ticket
    pub made : x ≡ make ticket
    pub source : source_of order ticket ≡ id

  pub record IsItem (x : X) : Type 0 where
    pub ticket : ℕ
    pub listed : IsListed test n ticket
    pub made : x ≡ make ticket

  pub items : All IsItem (map make (filter test (tickets_below n)))
  items = All-map IsItem make (filter test (tickets_below n)) (All-weaker (IsListed test n) (λ t. IsItem (make t)) (λ t h. record { ticket = t; listed = h; made = refl }) (filter test (tickets_below n)) (all_listed test n))

  -- what is found of a command was made by a ticket of it
  pub found_is : (id : Source) → IfSome (find (λ x. is_same_source (key x) id) (map make (filter test (tickets_below n)))) (IsMade id)
  found_is id =
      both (find (λ x. is_same_source (key x) id) (map make (filter test (tickets_below n))))
      (IfSome-find IsItem (λ x. is_same_source (key x) id) (map make (filter test (tickets_below n))) items)
      (find_passes (λ x. is_same_source (key x) id) (map make (filter test (tickets_below n))))
    where
      both : (o : Option X) → IfSome o IsItem → IfSome o (λ x. is_same_source (key x) id ≡ true) → IfSome o (IsMade id)
      both None item same = tt
      both (Some x) item same = record {
        ticket = item.ticket;
        listed = item.listed;
        made = item.made;
        source = sym (keyed item.ticket) ∙ sym (ap key item.made) ∙ same_source-is (key x) id same;
      }

  any_made : (g : X → Bool) (ts : List ℕ) → list_any g (map make ts) ≡ list_any (λ t. g (make t)) ts
  any_made g [] = refl
  any_made g (t ∷ ts) = ap (λ (b : Bool). g (make t) || b) (any_made g ts)

  -- and a ticket's is found
  pub found_some : (t : ℕ) → t < n → test t ≡ true → is_some (find (λ x. is_same_source (key x) (source_of order t)) (map make (filter test (tickets_below n)))) ≡ true
  found_some t below passes =
      sym (list_any-find (λ x. is_same_source (key x) (source_of order t)) (map make (filter test (tickets_below n))))
      ∙ any_made (λ x. is_same_source (key x) (source_of order t)) (filter test (tickets_below n))
      ∙ any_below (λ s. is_same_source (key (make s)) (source_of order t)) test n t below passes (same_source-own (key (make t)) (source_of order t) (keyed t))

  -- and it is what that ticket made
  pub found_same : n ≤ length order → (t : ℕ) → t < n → test t ≡ true → find (λ x. is_same_source (key x) (source_of order t)) (map make (filter test (tickets_below n))) ≡ Some (make t)
  found_same drawn t below passes =
      by_found (find (λ x. is_same_source (key x) (source_of order t)) (map make (filter test (tickets_below n)))) (found_is (source_of order t)) (found_some t below passes)
    where
      by_found : (o : Option X) → IfSome o (IsMade (source_of order t)) → is_some o ≡ true → o ≡ Some (make t)
      by_found None made some = absurd cc
      by_found (Some x) made some =
          let low = made.listed.below in
          let same : made.ticket ≡ t =
          sym (ticket_of-source_of order made.ticket (omega (arith, low, drawn))) ∙ ap (ticket_of order) made.source ∙ ticket_of-source_of order t (omega (arith, below, drawn)) in
          ap Some (made.made ∙ ap make same)
