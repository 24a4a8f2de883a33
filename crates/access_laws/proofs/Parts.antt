-- Two worlds agree in chunks exactly where they have the same part in each.
use Rattle.std.proofs.Common.{◌≡◌, ℕ, zero, suc, ◌+◌, ◌<◌, ◌≤◌, eqb, Bool, true, false, cond, List, ◌∷◌, map, drop, get_or, refl, sym, ap, ◌∙◌, subst, inl, inr, arith}
use Rattle.std.specs.Prelude.{filter}
use Rattle.std.specs.List.{range_with_len}
use Rattle.std.proofs.lemmas.Bool.{cases_lt, eq-eqb}
use Rattle.edit_terms.specs.Area.{Area, volume, position_of, chunk_of}
use Rattle.edit_terms.specs.World.{BlockContent, World}
use Rattle.run_terms.specs.Change.{content_of}
use Rattle.access_laws.specs.Locality.{is_among, IsAgreementByParts}
use Rattle.access_laws.proofs.Agreement.{by_contents}

pub same_number : (m n : ℕ) → eqb m n ≡ true → m ≡ n
same_number m n h = grind (arith)

module _ (f g : ℕ → BlockContent) (test : ℕ → Bool) where
  -- the same at each place that passes the test, so the same list
  pub listed_same : (a n end : ℕ) → a + n ≤ end → ((k : ℕ) → k < end → test k ≡ true → f k ≡ g k) → map f (filter test (range_with_len a n)) ≡ map g (filter test (range_with_len a n))
  listed_same a zero end within same = refl
  listed_same a (suc n) end within same = by_head (listed_same (a + 1) n end (omega (arith, within)) same) (test a) refl
    where
      by_head : map f (filter test (range_with_len (a + 1) n)) ≡ map g (filter test (range_with_len (a + 1) n)) → (b : Bool) → test a ≡ b
          → map f (cond b (a ∷ filter test (range_with_len (a + 1) n)) (filter test (range_with_len (a + 1) n))) ≡ map g (cond b (a ∷ filter test (range_with_len (a + 1) n)) (filter test (range_with_len (a + 1) n)))
      by_head later true is = let here = same a (omega (arith, within)) is in λ i. here i ∷ later i
      by_head later false is = later

  -- one list of both, so the same at each place that passes the test
  same_listed : (a n k : ℕ) → a ≤ k → k < a + n → test k ≡ true → map f (filter test (range_with_len a n)) ≡ map g (filter test (range_with_len a n)) → f k ≡ g k
  same_listed a zero k low high is same = absurd (omega (arith, low, high))
  same_listed a (suc n) k low high is same = by_head (λ below. same_listed (a + 1) n k (omega (arith, below)) (omega (arith, high)) is) (test a) refl same
    where
      by_head : (a < k → map f (filter test (range_with_len (a + 1) n)) ≡ map g (filter test (range_with_len (a + 1) n)) → f k ≡ g k) → (b : Bool) → test a ≡ b
          → map f (cond b (a ∷ filter test (range_with_len (a + 1) n)) (filter test (range_with_len (a + 1) n))) ≡ map g (cond b (a ∷ filter test (range_with_len (a + 1) n)) (filter test (range_with_len (a + 1) n))) → f k ≡ g k
      by_head later true head e = elim (cases_lt a k) [
        | inl below ↦ later below (ap (λ (cs : List BlockContent). drop 1 cs) e)
        | inr above ↦ let here : a ≡ k = omega (arith, low, above) in sym (ap f here) ∙ ap (λ (cs : List BlockContent). get_or cs 0 (f a)) e ∙ ap g here
      ]
      by_head later false head e = elim (cases_lt a k) [
        | inl below ↦ later below e
        | inr above ↦ let here : a ≡ k = omega (arith, low, above) in let passes : test a ≡ true = ap test here ∙ is in absurd cc
      ]

module _ (area : Area) (chunks : List ℕ) (cs ds : List BlockContent) where
  abbrev w : World
  w = record { area = area; contents = cs }

  abbrev v : World
  v = record { area = area; contents = ds }

  -- the block at a place lies in the chunk
  abbrev lies_in : ℕ → ℕ → Bool
  lies_in chunk index = eqb (chunk_of area (position_of area index)) chunk

  by_parts : IsAgreementByParts area chunks w v
  by_parts = record {
    parts = λ agree chunk listed. listed_same (content_of w) (content_of v) (lies_in chunk) 0 (volume area) (volume area) (omega arith) (λ k below is.
        (let here : chunk_of area (position_of area k) ≡ chunk = same_number (chunk_of area (position_of area k)) chunk is in agree k below (ap (is_among chunks) here ∙ listed)));
    contents = λ same k below listed.
        same_listed (content_of w) (content_of v) (lies_in (chunk_of area (position_of area k))) 0 (volume area) k (omega arith) (omega (arith, below))
        (eq-eqb (chunk_of area (position_of area k)) (chunk_of area (position_of area k)) refl) (same (chunk_of area (position_of area k)) listed);
  }

pub agreement_by_parts : (area : Area) (chunks : List ℕ) (w v : World) → w.area ≡ area → v.area ≡ area → IsAgreementByParts area chunks w v
agreement_by_parts area chunks w v first second =
    subst (λ (a : World). IsAgreementByParts area chunks a v) (by_contents area w first)
    (subst (λ (b : World). IsAgreementByParts area chunks (record { area = area; contents = w.contents }) b) (by_contents area v second) (by_parts area chunks w.contents v.contents))
