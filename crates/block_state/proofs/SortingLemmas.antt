-- A property that is put in its place, seen by the place: that of the first key that isn't below its own.
use Rattle.std.proofs.Common.{◌≡◌, ℕ, zero, suc, ◌<◌, ◌≤◌, true, false, cond, List, [], ◌∷◌, ◌++◌, length, get_or, set, Some, None, Less, Equal, Greater, refl, sym, ap, ◌∙◌, arith}
use Rattle.std.specs.Prelude.{bytes_eq, position}
use Rattle.std.specs.List.{insert, position_or_len}
use Rattle.std.specs.Ordering.{nat_cmp, is_le, is_eq}
use Rattle.std.specs.Cmp.Lexicographic.{slice_cmp}
use Rattle.std.specs.FinMap.Entries.{by_order}
use Rattle.std.proofs.lemmas.Map.Text.{is_eq-slice_cmp}
use Rattle.std.proofs.lemmas.Bool.{cond-true, cond-false}
use Rattle.std.proofs.lemmas.Bool.Decides.{nat_tests}
use Rattle.std.proofs.lemmas.List.Quantifiers.{position-Some}
use Rattle.std.proofs.lemmas.List.Sums.{fails_before_first}
use Rattle.std.proofs.lemmas.Slice.Eq.{bytes_eq-Decides}
use Rattle.edit_terms.specs.StateText.{put_property, with_properties}

-- the last of the listed properties is put first
pub with_properties-append : (old ps : List (List ℕ × List ℕ)) (p : List ℕ × List ℕ) → with_properties old (ps ++ p ∷ []) ≡ with_properties (put_property p old) ps
with_properties-append old [] p = refl
with_properties-append old (q ∷ ps) p = ap (put_property q) (with_properties-append old ps p)

-- behind a lower key
put_behind : (p q : List ℕ × List ℕ) (qs : List (List ℕ × List ℕ)) → is_le (slice_cmp nat_cmp p.0 q.0) ≡ false → put_property p (q ∷ qs) ≡ q ∷ put_property p qs
put_behind p q qs h =
    elim (slice_cmp nat_cmp p.0 q.0) as (λ r. is_le r ≡ false → by_order r (p ∷ q ∷ qs) ((q.0, p.1) ∷ qs) (q ∷ put_property p qs) ≡ q ∷ put_property p qs) [
      | Less ↦ λ e. absurd cc
      | Equal ↦ λ e. absurd cc
      | Greater ↦ λ e. refl
    ] h

-- before a key that isn't below, unless it is that key
put_here : (p q : List ℕ × List ℕ) (qs : List (List ℕ × List ℕ)) → is_le (slice_cmp nat_cmp p.0 q.0) ≡ true → put_property p (q ∷ qs) ≡ cond (is_eq (slice_cmp nat_cmp p.0 q.0)) ((q.0, p.1) ∷ qs) (p ∷ q ∷ qs)
put_here p q qs h =
    elim (slice_cmp nat_cmp p.0 q.0) as (λ r. is_le r ≡ true → by_order r (p ∷ q ∷ qs) ((q.0, p.1) ∷ qs) (q ∷ put_property p qs) ≡ cond (is_eq r) ((q.0, p.1) ∷ qs) (p ∷ q ∷ qs)) [
      | Less ↦ λ e. refl
      | Equal ↦ λ e. refl
      | Greater ↦ λ e. absurd cc
    ] h

-- at the first place whose key isn't below
put_at : (p x : List ℕ × List ℕ) (ps : List (List ℕ × List ℕ)) (k : ℕ) → k < length ps → is_le (slice_cmp nat_cmp p.0 (get_or ps k x).0) ≡ true → ((j : ℕ) → j < k → is_le (slice_cmp nat_cmp p.0 (get_or ps j x).0) ≡ false) → put_property p ps ≡ cond (is_eq (slice_cmp nat_cmp p.0 (get_or ps k x).0)) (set ps k ((get_or ps k x).0, p.1)) (insert ps k p)
put_at p x [] k within le lower = absurd (omega (arith, within))
put_at p x (q ∷ qs) zero within le lower = put_here p q qs le
put_at p x (q ∷ qs) (suc k) within le lower =
    put_behind p q qs (lower 0 (omega arith))
    ∙ ap (λ (l : List (List ℕ × List ℕ)). q ∷ l) (put_at p x qs k (omega (arith, within)) le (λ j less. lower (suc j) (omega (arith, less))))
    ∙ elim (is_eq (slice_cmp nat_cmp p.0 (get_or qs k x).0)) as (λ b. q ∷ cond b (set qs k ((get_or qs k x).0, p.1)) (insert qs k p) ≡ cond b (q ∷ set qs k ((get_or qs k x).0, p.1)) (q ∷ insert qs k p)) [ true ↦ refl | false ↦ refl ]

put_at_end : (p x : List ℕ × List ℕ) (ps : List (List ℕ × List ℕ)) → ((j : ℕ) → j < length ps → is_le (slice_cmp nat_cmp p.0 (get_or ps j x).0) ≡ false) → put_property p ps ≡ ps ++ p ∷ []
put_at_end p x [] lower = refl
put_at_end p x (q ∷ qs) lower =
    put_behind p q qs (lower 0 (omega arith)) ∙ ap (λ (l : List (List ℕ × List ℕ)). q ∷ l) (put_at_end p x qs (λ j less. lower (suc j) (omega (arith, less))))

-- where each key is below, the property comes last
pub put_last : (p : List ℕ × List ℕ) (ps : List (List ℕ × List ℕ)) → position (λ q. is_le (slice_cmp nat_cmp p.0 q.0)) ps ≡ None → put_property p ps ≡ ps ++ p ∷ []
put_last p ps none =
    let nowhere : length ps ≤ position_or_len (λ q. is_le (slice_cmp nat_cmp p.0 q.0)) ps = grind (arith, nat_tests) in
    put_at_end p p ps (λ j less. fails_before_first (λ q. is_le (slice_cmp nat_cmp p.0 q.0)) ps j p (omega (arith, less)))

-- a property of the same key is replaced
pub put_there : (p x : List ℕ × List ℕ) (ps : List (List ℕ × List ℕ)) (k : ℕ) → position (λ q. is_le (slice_cmp nat_cmp p.0 q.0)) ps ≡ Some k → x ≡ get_or ps k x → bytes_eq p.0 x.0 ≡ true → put_property p ps ≡ set ps k p
put_there p x ps k found is same =
    let here = position-Some (λ (q : List ℕ × List ℕ). is_le (slice_cmp nat_cmp p.0 q.0)) ps k x found in
    put_at p x ps k here.0 here.1 here.2
    ∙ ap (λ (y : List ℕ × List ℕ). cond (is_eq (slice_cmp nat_cmp p.0 y.0)) (set ps k (y.0, p.1)) (insert ps k p)) (sym is)
    ∙ cond-true _ _ _ (is_eq-slice_cmp p.0 x.0 ∙ same)
    ∙ ap (λ (y : List ℕ). set ps k (y, p.1)) (sym ((bytes_eq-Decides p.0 x.0).0 same))

-- else the property comes before the first key that isn't below
pub put_before : (p x : List ℕ × List ℕ) (ps : List (List ℕ × List ℕ)) (k : ℕ) → position (λ q. is_le (slice_cmp nat_cmp p.0 q.0)) ps ≡ Some k → x ≡ get_or ps k x → bytes_eq p.0 x.0 ≡ false → put_property p ps ≡ insert ps k p
put_before p x ps k found is other =
    let here = position-Some (λ (q : List ℕ × List ℕ). is_le (slice_cmp nat_cmp p.0 q.0)) ps k x found in
    put_at p x ps k here.0 here.1 here.2
    ∙ ap (λ (y : List ℕ × List ℕ). cond (is_eq (slice_cmp nat_cmp p.0 y.0)) (set ps k (y.0, p.1)) (insert ps k p)) (sym is)
    ∙ cond-false _ _ _ (is_eq-slice_cmp p.0 x.0 ∙ other)
