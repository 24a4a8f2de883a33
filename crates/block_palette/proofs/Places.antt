-- Places in a list that grows at its end, and facts of each item of such a list.
use Rattle.std.proofs.Common.{◌≡◌, ℕ, zero, suc, ◌+◌, Bool, true, false, ◌||◌, List, [], ◌∷◌, ◌++◌, map, length, Some, slice_get, refl, sym, ap, subst, ◌∙◌, true≢false, arith}
use Rattle.std.specs.List.{list_any, position_or_len, AllZip, AllByRecursion}

pub tail_answer : (b c v : Bool) → b ≡ false → (b || c) ≡ v → c ≡ v
tail_answer b c v e h = sym (ap (λ d. d || c) e) ∙ h

pub or-true : (b : Bool) → (b || true) ≡ true
or-true true = refl
or-true false = refl

pub no_head : (b c : Bool) → b ≡ true → (b || c) ≡ false → ⊥
no_head b c e h = true≢false (sym (ap (λ d. d || c) e) ∙ h)

module _ {A : Type 0} (p : A → Bool) where
  -- what passes in ds is found at the same place in any list that begins with ds
  pub position_or_len-append : (ds ys : List A) → list_any p ds ≡ true → position_or_len p (ds ++ ys) ≡ position_or_len p ds
  position_or_len-append [] ys h = absurd (true≢false (sym h))
  position_or_len-append (d ∷ ds) ys h = by (p d) refl (position_or_len-append ds ys)
    where
      by : (b : Bool) → p d ≡ b → (list_any p ds ≡ true → position_or_len p (ds ++ ys) ≡ position_or_len p ds) → position_or_len p ((d ∷ ds) ++ ys) ≡ position_or_len p (d ∷ ds)
      by true e rest = rw e refl
      by false e rest = rw e (ap (λ n. 1 + n) (rest (tail_answer (p d) _ true e h)))

  -- where nothing passes, the place is the length
  pub position_or_len-none : (ds : List A) → list_any p ds ≡ false → position_or_len p ds ≡ length ds
  position_or_len-none [] h = refl
  position_or_len-none (d ∷ ds) h = by (p d) refl (position_or_len-none ds)
    where
      by : (b : Bool) → p d ≡ b → (list_any p ds ≡ false → position_or_len p ds ≡ length ds) → position_or_len p (d ∷ ds) ≡ length (d ∷ ds)
      by true e rest = absurd (no_head (p d) _ e h)
      by false e rest = let q = rest (tail_answer (p d) _ false e h) in rw e (omega arith)

  -- and a last element that passes is at it
  pub position_or_len-last : (ds : List A) (x : A) → list_any p ds ≡ false → p x ≡ true → position_or_len p (ds ++ x ∷ []) ≡ length ds
  position_or_len-last [] x h e = rw e refl
  position_or_len-last (d ∷ ds) x h e = by (p d) refl (position_or_len-last ds x)
    where
      by : (b : Bool) → p d ≡ b → (list_any p ds ≡ false → p x ≡ true → position_or_len p (ds ++ x ∷ []) ≡ length ds) → position_or_len p ((d ∷ ds) ++ x ∷ []) ≡ length (d ∷ ds)
      by true f rest = absurd (no_head (p d) _ f h)
      by false f rest = let q = rest (tail_answer (p d) _ false f h) e in rw f (omega arith)

  -- what passes is at the place
  pub passes_at_place : (ds : List A) → list_any p ds ≡ true → (e : A) × (slice_get ds (position_or_len p ds) ≡ Some e) × (p e ≡ true)
  passes_at_place [] h = absurd (true≢false (sym h))
  passes_at_place (d ∷ ds) h = by (p d) refl (passes_at_place ds)
    where
      by : (b : Bool) → p d ≡ b → (list_any p ds ≡ true → (e : A) × (slice_get ds (position_or_len p ds) ≡ Some e) × (p e ≡ true)) → (e : A) × (slice_get (d ∷ ds) (position_or_len p (d ∷ ds)) ≡ Some e) × (p e ≡ true)
      by true e rest = (d, rw e refl, e)
      by false e rest = behind e (rest (tail_answer (p d) _ true e h))
        where
          behind : p d ≡ false → (e : A) × (slice_get ds (position_or_len p ds) ≡ Some e) × (p e ≡ true) → (e : A) × (slice_get (d ∷ ds) (position_or_len p (d ∷ ds)) ≡ Some e) × (p e ≡ true)
          behind f q =
              let n = position_or_len p ds in
              let next : suc n ≡ 1 + n = omega arith in
              (q.0, rw f (subst (λ i. slice_get (d ∷ ds) i ≡ Some q.0) next q.1), q.2)

module _ {A : Type 0} where
  pub slice_get-append : (ds ys : List A) (n : ℕ) (e : A) → slice_get ds n ≡ Some e → slice_get (ds ++ ys) n ≡ Some e
  slice_get-append [] ys n e h = cc
  slice_get-append (d ∷ ds) ys zero e h = h
  slice_get-append (d ∷ ds) ys (suc n) e h = slice_get-append ds ys n e h

  pub slice_get-last : (ds : List A) (x : A) → slice_get (ds ++ x ∷ []) (length ds) ≡ Some x
  slice_get-last [] x = refl
  slice_get-last (d ∷ ds) x = slice_get-last ds x

  pub AllByRecursion-implied : {P Q : A → Type 0} → ((x : A) → P x → Q x) → (xs : List A) → AllByRecursion P xs → AllByRecursion Q xs
  AllByRecursion-implied f [] h = h
  AllByRecursion-implied f (x ∷ xs) h = (f x h.0, AllByRecursion-implied f xs h.1)

  pub map-alike : {B : Type 0} (f g : A → B) (xs : List A) → AllByRecursion (λ x. f x ≡ g x) xs → map f xs ≡ map g xs
  map-alike f g [] h = refl
  map-alike f g (x ∷ xs) h = λ i. h.0 i ∷ map-alike f g xs h.1 i

  pub AllZip-implied : {B : Type 0} (P Q : A → B → Type 0) → ((x : A) (y : B) → P x y → Q x y) → (xs : List A) (ys : List B) → AllZip P xs ys → AllZip Q xs ys
  AllZip-implied P Q f [] [] h = h
  AllZip-implied P Q f [] (y ∷ ys) h = h
  AllZip-implied P Q f (x ∷ xs) [] h = h
  AllZip-implied P Q f (x ∷ xs) (y ∷ ys) h = (f x y h.0, AllZip-implied P Q f xs ys h.1)

  pub AllZip-append_last : {B : Type 0} (R : A → B → Type 0) (xs : List A) (ys : List B) (x : A) (y : B) → AllZip R xs ys → R x y → AllZip R (xs ++ x ∷ []) (ys ++ y ∷ [])
  AllZip-append_last R [] [] x y h r = (r, tt)
  AllZip-append_last R [] (w ∷ ys) x y h r = absurd h
  AllZip-append_last R (v ∷ xs) [] x y h r = absurd h
  AllZip-append_last R (v ∷ xs) (w ∷ ys) x y h r = (h.0, AllZip-append_last R xs ys x y h.1 r)

  pub AllZip-lengths : {B : Type 0} (R : A → B → Type 0) (xs : List A) (ys : List B) → AllZip R xs ys → length xs ≡ length ys
  AllZip-lengths R [] [] h = refl
  AllZip-lengths R [] (y ∷ ys) h = absurd h
  AllZip-lengths R (x ∷ xs) [] h = absurd h
  AllZip-lengths R (x ∷ xs) (y ∷ ys) h = ap suc (AllZip-lengths R xs ys h.1)
