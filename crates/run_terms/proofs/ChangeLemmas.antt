-- The changes between two worlds, looked up by place.
use Rattle.std.proofs.Common.{◌≡◌, ℕ, zero, suc, ◌+◌, ◌<◌, ◌≤◌, eqb, Bool, true, false, cond, not, List, [], ◌∷◌, map, Option, Some, None, refl, sym, ap, ◌∙◌, subst, inl, inr, arith}
use Rattle.std.specs.Prelude.{IfSome, find, filter_map, is_some, option_map}
use Rattle.std.specs.List.{range_with_len, cons_option, list_any}
use Rattle.std.proofs.lemmas.Bool.{cases_lt, eq-eqb, ne_eqb}
use Rattle.std.proofs.lemmas.List.{append-nil}
use Rattle.edit_terms.specs.Area.{volume}
use Rattle.edit_terms.specs.Same.{same_content}
use Rattle.edit_terms.specs.World.{BlockContent, World}
use Rattle.run_terms.specs.Change.{Change, content_of, change_at, changes_between}
use Rattle.run_terms.specs.Effect.{latest_change}
use Rattle.run_terms.proofs.Lists.{list_any-find}

-- a change by its parts
abbrev pub change_of : ℕ → BlockContent → BlockContent → Change
change_of index before after = record { index = index; before = before; after = after }

-- the functions here give each place's own change
abbrev pub IsPlaced : (ℕ → Option Change) → Type 0
IsPlaced f = (k : ℕ) → IfSome (f k) (λ change. change.index ≡ k)

skipped : (o : Option Change) (rest : List Change) (k i : ℕ) → (k ≡ i → ⊥) → IfSome o (λ change. change.index ≡ k) → find (λ change. eqb change.index i) (cons_option o rest) ≡ find (λ change. eqb change.index i) rest
skipped None rest k i other placed = refl
skipped (Some change) rest k i other placed =
    ap (λ (b : Bool). cond b (Some change) (find (λ c. eqb c.index i) rest)) (ne_eqb change.index i (λ e. other (sym placed ∙ e)))

find_before : (f : ℕ → Option Change) → IsPlaced f → (a n i : ℕ) → i < a → find (λ change. eqb change.index i) (filter_map f (range_with_len a n)) ≡ None
find_before f placed a zero i before = refl
find_before f placed a (suc n) i before =
    skipped (f a) (filter_map f (range_with_len (a + 1) n)) a i (λ e. omega (arith, e, before)) (placed a) ∙ find_before f placed (a + 1) n i (omega (arith, before))

found_at_head : (o : Option Change) (rest : List Change) (i : ℕ) → IfSome o (λ change. change.index ≡ i) → find (λ change. eqb change.index i) rest ≡ None → find (λ change. eqb change.index i) (cons_option o rest) ≡ o
found_at_head None rest i placed none = none
found_at_head (Some change) rest i placed none = ap (λ (b : Bool). cond b (Some change) (find (λ c. eqb c.index i) rest)) (eq-eqb change.index i placed)

find_within : (f : ℕ → Option Change) → IsPlaced f → (a n i : ℕ) → a ≤ i → i < a + n → find (λ change. eqb change.index i) (filter_map f (range_with_len a n)) ≡ f i
find_within f placed a zero i low high = absurd (omega (arith, low, high))
find_within f placed a (suc n) i low high = elim (cases_lt a i) [
  | inl below ↦
      skipped (f a) (filter_map f (range_with_len (a + 1) n)) a i (λ e. omega (arith, e, below)) (placed a)
      ∙ find_within f placed (a + 1) n i (omega (arith, below)) (omega (arith, high))
  | inr above ↦
      let e : a ≡ i = omega (arith, low, above) in
      found_at_head (f a) (filter_map f (range_with_len (a + 1) n)) i (subst (λ (k : ℕ). IfSome (f a) (λ change. change.index ≡ k)) e (placed a)) (find_before f placed (a + 1) n i (omega (arith, e)))
      ∙ ap f e
]

pub change_at-placed : (old new : World) → IsPlaced (change_at old new)
change_at-placed old new k = by_test (same_content (content_of old k) (content_of new k))
  where
    by_test : (same : Bool) → IfSome (cond same None (Some (change_of k (content_of old k) (content_of new k)))) (λ change. change.index ≡ k)
    by_test true = tt
    by_test false = refl

pub find-changes_between : (old new : World) (i : ℕ) → i < volume old.area → find (λ change. eqb change.index i) (changes_between old new) ≡ change_at old new i
find-changes_between old new i within = find_within (change_at old new) (change_at-placed old new) 0 (volume old.area) i (omega arith) (omega (arith, within))

-- the latest change of a single edit
pub latest_change-one : (old new : World) (i : ℕ) → i < volume old.area → latest_change (changes_between old new ∷ []) i ≡ change_at old new i
latest_change-one old new i within = ap (λ (changes : List Change). find (λ change. eqb change.index i) changes) (append-nil (changes_between old new)) ∙ find-changes_between old new i within

-- a place is changed exactly where the contents differ
pub changed-differs : (old new : World) (i : ℕ) → i < volume old.area → list_any (λ change. eqb change.index i) (changes_between old new) ≡ not (same_content (content_of old i) (content_of new i))
changed-differs old new i within =
    list_any-find (λ change. eqb change.index i) (changes_between old new) ∙ ap (λ (o : Option Change). is_some o) (find-changes_between old new i within)
    ∙ by_test (same_content (content_of old i) (content_of new i))
  where
    by_test : (same : Bool) → is_some (cond same None (Some (change_of i (content_of old i) (content_of new i)))) ≡ not same
    by_test true = refl
    by_test false = refl

-- two lists of changes are each other's images where they are so place by place
pub filter_map-image : (f g : ℕ → Option Change) (image : Change → Change) (a n end : ℕ) → a + n ≤ end → ((k : ℕ) → k < end → f k ≡ option_map image (g k))
    → filter_map f (range_with_len a n) ≡ map image (filter_map g (range_with_len a n))
filter_map-image f g image a zero end within each = refl
filter_map-image f g image a (suc n) end within each =
    let rest = filter_map-image f g image (a + 1) n end (omega (arith, within)) each in
    ap (λ (o : Option Change). cons_option o (filter_map f (range_with_len (a + 1) n))) (each a (omega (arith, within)))
    ∙ ap (λ (changes : List Change). cons_option (option_map image (g a)) changes) rest ∙ by_option (g a) (filter_map g (range_with_len (a + 1) n))
  where
    by_option : (o : Option Change) (changes : List Change) → cons_option (option_map image o) (map image changes) ≡ map image (cons_option o changes)
    by_option None changes = refl
    by_option (Some change) changes = refl
