-- Lists of what is there at some of the places from one on.
use Rattle.std.proofs.Common.{◌≡◌, ℕ, zero, suc, ◌+◌, ◌<◌, ◌≤◌, Bool, true, false, cond, List, [], ◌∷◌, length, map, Some, None, Option, refl, sym, ap, ◌∙◌, arith}
use Rattle.std.specs.Prelude.{filter, is_some, IfSome, count_by}
use Rattle.std.specs.List.{AllByRecursion, filter_map, cons_option, range_with_len}
use Rattle.std.proofs.lemmas.List.Sums.{length-filter}

cons_option-same : {B : Type 0} (o p : Option B) (xs ys : List B) → o ≡ p → xs ≡ ys → cons_option o xs ≡ cons_option p ys
cons_option-same o p xs ys e f = ap (λ (q : Option _). cons_option q xs) e ∙ ap (λ (zs : List _). cons_option p zs) f

-- what is there at each place from one on decides the list
pub filter_map-same : {B : Type 0} (f g : ℕ → Option B) (low n : ℕ) → ((i : ℕ) → low ≤ i → i < low + n → f i ≡ g i) → filter_map f (range_with_len low n) ≡ filter_map g (range_with_len low n)
filter_map-same f g low zero h = refl
filter_map-same f g low (suc n) h =
    cons_option-same (f low) (g low) (filter_map f (range_with_len (low + 1) n)) (filter_map g (range_with_len (low + 1) n))
    (h low (omega arith) (omega arith))
    (filter_map-same f g (low + 1) n (λ i from to. h i (omega (arith, from)) (omega (arith, to))))

-- nothing at any place
pub filter_map-none : {B : Type 0} (f : ℕ → Option B) (low n : ℕ) → ((i : ℕ) → low ≤ i → i < low + n → f i ≡ None) → filter_map f (range_with_len low n) ≡ []
filter_map-none f low zero h = refl
filter_map-none f low (suc n) h =
    cons_option-same (f low) None (filter_map f (range_with_len (low + 1) n)) [] (h low (omega arith) (omega arith))
    (filter_map-none f (low + 1) n (λ i from to. h i (omega (arith, from)) (omega (arith, to))))

all_step : {B : Type 0} (P : B → Type 0) (o : Option B) (xs : List B) → IfSome o P → AllByRecursion P xs → AllByRecursion P (cons_option o xs)
all_step P (Some x) xs h k = (h, k)
all_step P None xs h k = k

-- what holds of what is there at each place
pub each-filter_map : {B : Type 0} (P : B → Type 0) (f : ℕ → Option B) (low n : ℕ) → ((i : ℕ) → low ≤ i → i < low + n → IfSome (f i) P) → AllByRecursion P (filter_map f (range_with_len low n))
each-filter_map P f low zero h = tt
each-filter_map P f low (suc n) h =
    all_step P (f low) (filter_map f (range_with_len (low + 1) n)) (h low (omega arith) (omega arith))
    (each-filter_map P f (low + 1) n (λ i from to. h i (omega (arith, from)) (omega (arith, to))))

length_step : {B : Type 0} (o : Option B) (xs : List B) (ys : List ℕ) (i : ℕ) → length xs ≡ length ys → length (cons_option o xs) ≡ length (cond (is_some o) (i ∷ ys) ys)
length_step (Some x) xs ys i h = ap (λ (n : ℕ). suc n) h
length_step None xs ys i h = h

length-filter_map : {B : Type 0} (f : ℕ → Option B) (is : List ℕ) → length (filter_map f is) ≡ length (filter (λ i. is_some (f i)) is)
length-filter_map f [] = refl
length-filter_map f (i ∷ is) = length_step (f i) (filter_map f is) (filter (λ j. is_some (f j)) is) i (length-filter_map f is)

count_step : {X : Type 0} (b : Bool) (x : X) (i : ℕ) (xs : List X) (is : List ℕ) → length xs ≡ length is → length (cond b (x ∷ xs) xs) ≡ length (cond b (i ∷ is) is)
count_step true x i xs is h = ap (λ (n : ℕ). suc n) h
count_step false x i xs is h = h

length-filter-map : {X : Type 0} (p : X → Bool) (f : ℕ → X) (is : List ℕ) → length (filter p (map f is)) ≡ length (filter (λ i. p (f i)) is)
length-filter-map p f [] = refl
length-filter-map p f (i ∷ is) = count_step (p (f i)) (f i) i (filter p (map f is)) (filter (λ j. p (f j)) is) (length-filter-map p f is)

-- how many there are
pub count_by-filter_map : {X B : Type 0} (p : X → Bool) (f : ℕ → X) (g : ℕ → Option B) (is : List ℕ) → ((i : ℕ) → p (f i) ≡ is_some (g i)) → count_by p (map f is) ≡ length (filter_map g is)
count_by-filter_map p f g is same =
    sym (length-filter p (map f is)) ∙ length-filter-map p f is
    ∙ ap (λ (q : ℕ → Bool). length (filter q is)) (λ k i. same i k)
    ∙ sym (length-filter_map g is)
