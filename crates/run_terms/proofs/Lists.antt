-- Lists that are searched, reversed and made over ranges.
use Rattle.std.proofs.Common.{◌≡◌, ℕ, zero, suc, ◌+◌, ◌-◌, ◌<◌, ◌≤◌, Bool, true, false, cond, ◌||◌, List, [], ◌∷◌, length, map, Option, Some, None, refl, sym, ap, ◌∙◌, subst, arith}
use Rattle.std.specs.Prelude.{All, IfSome, reverse, find, flat_map, filter_map, is_some}
use Rattle.std.specs.List.{range_with_len, cons_option, list_any, AllByRecursion}
use Rattle.std.proofs.lemmas.List.{length-reverse, get_or-reverse}
use Rattle.std.proofs.lemmas.List.Elements.{All-nil, All-cons, All-head, All-tail, All-append}

-- ---- what is true of each item

pub All-reverse : {X : Type 0} (P : X → Type 0) (xs : List X) → All P xs → All P (reverse xs)
All-reverse P xs all = λ k d within.
    let inside : k < length xs = omega (arith, within, length-reverse xs) in
    subst P (sym (get_or-reverse xs k d inside)) (all (length xs - 1 - k) d (omega (arith, inside)))

pub All-flat_map : {X : Type 0} (P : X → Type 0) (xss : List (List X)) → All (λ xs. All P xs) xss → All P (flat_map (λ xs. xs) xss)
All-flat_map P [] all = All-nil P
All-flat_map P (xs ∷ xss) all = All-append P xs (flat_map (λ ys. ys) xss) (All-head (λ ys. All P ys) xs xss all) (All-flat_map P xss (All-tail (λ ys. All P ys) xs xss all))

All-cons_option : {X : Type 0} (P : X → Type 0) (o : Option X) (xs : List X) → IfSome o P → All P xs → All P (cons_option o xs)
All-cons_option P None xs p all = all
All-cons_option P (Some x) xs p all = All-cons P x xs p all

pub All-filter_map-range : {X : Type 0} (P : X → Type 0) (f : ℕ → Option X) (a n end : ℕ) → a + n ≤ end → ((k : ℕ) → k < end → IfSome (f k) P) → All P (filter_map f (range_with_len a n))
All-filter_map-range P f a zero end within each = All-nil P
All-filter_map-range P f a (suc n) end within each =
    All-cons_option P (f a) (filter_map f (range_with_len (a + 1) n)) (each a (omega (arith, within))) (All-filter_map-range P f (a + 1) n end (omega (arith, within)) each)

-- numbers below a number are below the next
pub All-below_more : (number : ℕ) (xs : List ℕ) → All (λ n. n < number) xs → All (λ n. n < suc number) xs
All-below_more number xs below = λ k d inside. omega (arith, below k d inside)

-- ---- the first item that passes a test

IfSome-cond : {X : Type 0} (P : X → Type 0) (b : Bool) (x : X) (o : Option X) → P x → IfSome o P → IfSome (cond b (Some x) o) P
IfSome-cond P true x o p q = p
IfSome-cond P false x o p q = q

pub IfSome-find : {X : Type 0} (P : X → Type 0) (test : X → Bool) (xs : List X) → All P xs → IfSome (find test xs) P
IfSome-find P test [] all = tt
IfSome-find P test (x ∷ xs) all = IfSome-cond P (test x) x (find test xs) (All-head P x xs all) (IfSome-find P test xs (All-tail P x xs all))

-- some item passes a test exactly where one is found
pub list_any-find : {X : Type 0} (test : X → Bool) (xs : List X) → list_any test xs ≡ is_some (find test xs)
list_any-find test [] = refl
list_any-find test (x ∷ xs) = by_head (test x) (list_any-find test xs)
  where
    by_head : (b : Bool) → list_any test xs ≡ is_some (find test xs) → (b || list_any test xs) ≡ is_some (cond b (Some x) (find test xs))
    by_head true same = refl
    by_head false same = same

-- ---- two functions that agree make the same list

pub map-agrees : {X : Type 0} (f g : ℕ → X) (P : ℕ → Type 0) → ((n : ℕ) → P n → f n ≡ g n) → (ns : List ℕ) → AllByRecursion P ns → map f ns ≡ map g ns
map-agrees f g P same [] all = refl
map-agrees f g P same (n ∷ ns) all = ap (λ x. x ∷ map f ns) (same n all.0) ∙ ap (λ xs. g n ∷ xs) (map-agrees f g P same ns all.1)

pub map-range_agrees : {X : Type 0} (f g : ℕ → X) (a n end : ℕ) → a + n ≤ end → ((k : ℕ) → k < end → f k ≡ g k) → map f (range_with_len a n) ≡ map g (range_with_len a n)
map-range_agrees f g a zero end within same = refl
map-range_agrees f g a (suc n) end within same =
    ap (λ x. x ∷ map f (range_with_len (a + 1) n)) (same a (omega (arith, within))) ∙ ap (λ xs. g a ∷ xs) (map-range_agrees f g (a + 1) n end (omega (arith, within)) same)
