-- Which commands a later command takes.
use Rattle.std.proofs.Common.{◌≡◌, ℕ, zero, suc, ◌+◌, ◌-◌, ◌<◌, ◌≤◌, eqb, ◌⊎◌, inl, inr, Bool, true, false, ◌||◌, List, [], ◌∷◌, ◌++◌, length, get_or, set, take, refl, sym, ◌∙◌, ap, arith, get_or-set_other, get_or-set_same}
use Rattle.std.specs.Prelude.{All}
use Rattle.std.specs.List.{list_any, range_with_len}
use Rattle.std.proofs.lemmas.Bool.{cases_lt, eq-eqb, ne_eqb}
use Rattle.std.proofs.lemmas.List.Elements.{All-head, All-tail}
use Rattle.std.proofs.lemmas.List.Folds.{list_any-append, list_any_more}
use Rattle.std.proofs.Math.Seq.{take-length}
use Rattle.edit_terms.specs.declared.step.Step.{Step}
use Rattle.edit_terms.specs.declared.step.Step.TheVariants.{Settled}
use Rattle.run_terms.specs.Fold.{edits_taken_by}
use Rattle.command_plan.specs.ResolvedScripts.{edits_at, is_taken, keeps_at, AreOfEarlier}
use Rattle.command_plan.proofs.RunLemmas.{range_split}

or_true : (b : Bool) → (b || true) ≡ true
or_true true = refl
or_true false = refl

or_none : (b : Bool) → (b || false) ≡ b
or_none true = refl
or_none false = refl

-- a mark more
pub kept_more : (keeps : List Bool) (e k : ℕ) → e < length keeps → get_or (set keeps e true) k false ≡ (get_or keeps k false || eqb e k)
kept_more keeps e k within = by_place (cases_lt e k) (cases_lt k e)
  where
    apart : (e ≡ k → ⊥) → get_or (set keeps e true) k false ≡ (get_or keeps k false || eqb e k)
    apart differs =
        get_or-set_other keeps e k true false (λ same. differs (sym same))
        ∙ sym (ap (λ (b : Bool). get_or keeps k false || b) (ne_eqb e k differs) ∙ or_none (get_or keeps k false))

    by_place : (e < k) ⊎ (k ≤ e) → (k < e) ⊎ (e ≤ k) → get_or (set keeps e true) k false ≡ (get_or keeps k false || eqb e k)
    by_place (inl below) other = apart (λ same. absurd (omega (arith, below, same)))
    by_place (inr above) (inl below) = apart (λ same. absurd (omega (arith, below, same)))
    by_place (inr above) (inr below) =
        let same : e ≡ k = omega (arith, above, below) in
        ap (λ (n : ℕ). get_or (set keeps e true) n false) (sym same)
        ∙ get_or-set_same keeps e true false within
        ∙ sym (ap (λ (b : Bool). get_or keeps k false || b) (eq-eqb e k same) ∙ or_true (get_or keeps k false))

-- a test of the items, by their places
range_more : (f : ℕ → Bool) (n : ℕ) → list_any f (range_with_len 0 (n + 1)) ≡ (list_any f (range_with_len 0 n) || f n)
range_more f n =
    ap (list_any f) (range_split 0 n 1)
    ∙ list_any-append f (range_with_len 0 n) (range_with_len (0 + n) 1)
    ∙ ap (λ (b : Bool). list_any f (range_with_len 0 n) || b) (or_none (f (0 + n)) ∙ ap f start)
  where
    start : 0 + n ≡ n
    start = omega arith

any_taken : {X : Type 0} (test : X → Bool) (d : X) (xs : List X) (n : ℕ) → n ≤ length xs → list_any test (take n xs) ≡ list_any (λ m. test (get_or xs m d)) (range_with_len 0 n)
any_taken test d xs zero within = refl
any_taken test d xs (suc n) within =
    let next : suc n ≡ n + 1 = omega arith in
    ap (λ (m : ℕ). list_any test (take m xs)) next
    ∙ list_any_more test xs n d (omega (arith, within))
    ∙ ap (λ (b : Bool). b || test (get_or xs n d)) (any_taken test d xs n (omega (arith, within)))
    ∙ sym (range_more (λ m. test (get_or xs m d)) n)
    ∙ ap (λ (m : ℕ). list_any (λ k. test (get_or xs k d)) (range_with_len 0 m)) (sym next)

pub any_by_place : {X : Type 0} (test : X → Bool) (d : X) (xs : List X) → list_any test xs ≡ list_any (λ m. test (get_or xs m d)) (range_with_len 0 (length xs))
any_by_place test d xs = ap (list_any test) (sym (take-length xs)) ∙ any_taken test d xs (length xs) (omega arith)

pub none_in_range : (f : ℕ → Bool) (a n : ℕ) → ((k : ℕ) → a ≤ k → k < a + n → f k ≡ false) → list_any f (range_with_len a n) ≡ false
none_in_range f a zero none = refl
none_in_range f a (suc n) none =
    ap (λ (b : Bool). b || list_any f (range_with_len (a + 1) n)) (none a (omega arith) (omega arith))
    ∙ none_in_range f (a + 1) n (λ k low high. none k (omega (arith, low)) (omega (arith, high)))

-- none of the earlier commands takes one
none_equal : (n : ℕ) (edits : List ℕ) → All (λ e. e < n) edits → list_any (λ e. eqb e n) edits ≡ false
none_equal n [] all = refl
none_equal n (e ∷ edits) all =
    let below : e < n = All-head (λ m. m < n) e edits all in
    ap (λ (b : Bool). b || list_any (λ m. eqb m n) edits) (ne_eqb e n (λ same. absurd (omega (arith, below, same))))
    ∙ none_equal n edits (All-tail (λ m. m < n) e edits all)

-- a command is taken by a later one, if by any
pub taken_later : (steps : List Step) (n : ℕ) → AreOfEarlier steps → n < length steps → is_taken steps n ≡ keeps_at steps n
taken_later steps n earlier within =
    let rest = length steps - (n + 1) in
    let whole : length steps ≡ n + 1 + rest = omega (arith, within) in
    let start : 0 + (n + 1) ≡ n + 1 = omega arith in
    let takes = λ (m : ℕ). list_any (λ edit. eqb edit n) (edits_at steps m) in
    any_by_place (λ step. list_any (λ edit. eqb edit n) (edits_taken_by step)) Settled steps
    ∙ ap (λ (k : ℕ). list_any takes (range_with_len 0 k)) whole
    ∙ ap (list_any takes) (range_split 0 (n + 1) rest)
    ∙ list_any-append takes (range_with_len 0 (n + 1)) (range_with_len (0 + (n + 1)) rest)
    ∙ ap (λ (b : Bool). b || list_any takes (range_with_len (0 + (n + 1)) rest))
    (none_in_range takes 0 (n + 1) (λ m low high. none_equal n (edits_at steps m) (λ k d below. let e = earlier m (omega (arith, high, within)) k d below in omega (arith, e, high))))
    ∙ ap (λ (k : ℕ). list_any takes (range_with_len k rest)) start
