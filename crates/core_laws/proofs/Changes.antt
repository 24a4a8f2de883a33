-- Changes in a chunk: those between two worlds are told by what stands in the chunk, and the kept ones of taken edits have
-- the latest change of each place.
use Rattle.std.proofs.Common.{◌≡◌, ℕ, zero, suc, ◌+◌, ◌<◌, ◌≤◌, eqb, Bool, true, false, cond, List, [], ◌∷◌, length, map, get_or, take, Option, Some, None, refl, sym, ap, ◌∙◌, subst, arith}
use Rattle.std.specs.Prelude.{All, IfSome, reverse, filter, find, filter_map, flat_map, is_some}
use Rattle.std.specs.List.{range_with_len, cons_option}
use Rattle.std.specs.Option.{option_map_or, option_or}
use Rattle.std.specs.Cmp.Derive.{both_true}
use Rattle.std.proofs.lemmas.Bool.{eq-eqb}
use Rattle.std.proofs.lemmas.List.{append-nil, reverse-append}
use Rattle.std.proofs.lemmas.List.Concat.{flat_map-append}
use Rattle.std.proofs.lemmas.List.Elements.{All-head, All-tail}
use Rattle.std.proofs.lemmas.List.Folds.{find-append}
use Rattle.edit_terms.specs.declared.clip.Source.{Source}
use Rattle.edit_terms.specs.Area.{Area, volume, position_of, chunk_of, is_world_box}
use Rattle.edit_terms.specs.Same.{same_content}
use Rattle.edit_terms.specs.World.{World}
use Rattle.run_terms.specs.Workload.{Workload}
use Rattle.run_terms.specs.Order.{lines_of, turns_of, player_of, command_number, source_of, ticket_from, ticket_of, step_of_ticket}
use Rattle.run_terms.specs.Change.{Change, content_of, change_at, changes_between}
use Rattle.run_terms.specs.Effect.{latest_change}
use Rattle.run_terms.specs.Fold.{edits_taken_by, taken_changes, world_after, changes_of}
use Rattle.run_terms.specs.Limits.{IsWithinLimits}
use Rattle.run_terms.specs.Access.{chunks_written}
use Rattle.run_terms.proofs.ChangeLemmas.{IsPlaced, change_at-placed}
use Rattle.run_terms.proofs.Earlier.{step_is_of_earlier}
use Rattle.run_terms.proofs.FoldLemmas.{taken_earlier}
use Rattle.run_terms.proofs.Tickets.{ticket_of-source_of}
use Rattle.access_laws.specs.Locality.{is_among}
use Rattle.access_laws.proofs.Parts.{same_number}
use Rattle.access_laws.proofs.Stays.{ticket_is_of, source_of_ticket, turns_of-take, unchanged, stays}
use Rattle.core_laws.specs.ChunkState.{Recorded, is_same_source, changes_kept, changes_in_chunk}
use Rattle.core_laws.specs.Core.{writes_chunk}
use Rattle.core_laws.specs.Serial.{tickets_below, recorded_by, is_kept, KeepsTaken}
use Rattle.core_laws.proofs.Tickets.{IsMade, found_is, found_some}

-- ---- what passes a test, found among what passes a wider one

pub find_filter : {X : Type 0} (p q : X → Bool) → ((x : X) → p x ≡ true → q x ≡ true) → (xs : List X) → find p (filter q xs) ≡ find p xs
find_filter p q h [] = refl
find_filter {X = X} p q h (x ∷ xs) = by_head (find_filter p q h xs) (q x) refl (p x) refl
  where
    by_head : find p (filter q xs) ≡ find p xs → (b : Bool) → q x ≡ b → (c : Bool) → p x ≡ c → find p (cond b (x ∷ filter q xs) (filter q xs)) ≡ cond c (Some x) (find p xs)
    by_head later true kept c is = ap (λ (d : Bool). cond d (Some x) (find p (filter q xs))) is ∙ ap (λ (o : Option X). cond c (Some x) o) later
    by_head later false dropped false is = later
    by_head later false dropped true is = let k : q x ≡ true = h x is in absurd cc

-- ---- changes between worlds, those in a chunk

module _ (q : ℕ → Bool) (f g : ℕ → Option Change) (of_f : IsPlaced f) (of_g : IsPlaced g) where
  dropped : (o : Option Change) (rest : List Change) (k : ℕ) → q k ≡ false → IfSome o (λ change. change.index ≡ k) → filter (λ (c : Change). q c.index) (cons_option o rest) ≡ filter (λ (c : Change). q c.index) rest
  dropped None rest k out placed = refl
  dropped (Some change) rest k out placed = ap (λ (b : Bool). cond b (change ∷ filter (λ (c : Change). q c.index) rest) (filter (λ (c : Change). q c.index) rest)) (ap q placed ∙ out)

  in_front : (o : Option Change) (xs ys : List Change) → filter (λ (c : Change). q c.index) xs ≡ filter (λ (c : Change). q c.index) ys
      → filter (λ (c : Change). q c.index) (cons_option o xs) ≡ filter (λ (c : Change). q c.index) (cons_option o ys)
  in_front None xs ys later = later
  in_front (Some change) xs ys later = λ i. cond (q change.index) (change ∷ later i) (later i)

  filtered_same : (a n end : ℕ) → a + n ≤ end → ((k : ℕ) → k < end → q k ≡ true → f k ≡ g k)
      → filter (λ (c : Change). q c.index) (filter_map f (range_with_len a n)) ≡ filter (λ (c : Change). q c.index) (filter_map g (range_with_len a n))
  filtered_same a zero end within same = refl
  filtered_same a (suc n) end within same = by_test (filtered_same (a + 1) n end (omega (arith, within)) same) (q a) refl
    where
      by_test : filter (λ (c : Change). q c.index) (filter_map f (range_with_len (a + 1) n)) ≡ filter (λ (c : Change). q c.index) (filter_map g (range_with_len (a + 1) n))
          → (b : Bool) → q a ≡ b → filter (λ (c : Change). q c.index) (cons_option (f a) (filter_map f (range_with_len (a + 1) n))) ≡ filter (λ (c : Change). q c.index) (cons_option (g a) (filter_map g (range_with_len (a + 1) n)))
      by_test later true is =
          ap (λ (o : Option Change). filter (λ (c : Change). q c.index) (cons_option o (filter_map f (range_with_len (a + 1) n)))) (same a (omega (arith, within)) is)
          ∙ in_front (g a) (filter_map f (range_with_len (a + 1) n)) (filter_map g (range_with_len (a + 1) n)) later
      by_test later false is =
          dropped (f a) (filter_map f (range_with_len (a + 1) n)) a is (of_f a) ∙ later ∙ sym (dropped (g a) (filter_map g (range_with_len (a + 1) n)) a is (of_g a))

-- two pairs of worlds that agree in a chunk have the same changes there
pub changes_in-same : (area : Area) (chunk : ℕ) (old new v w : World) → old.area ≡ area → v.area ≡ area
    → ((k : ℕ) → k < volume area → chunk_of area (position_of area k) ≡ chunk → content_of old k ≡ content_of v k) → ((k : ℕ) → k < volume area → chunk_of area (position_of area k) ≡ chunk → content_of new k ≡ content_of w k)
    → changes_in_chunk area chunk (changes_between old new) ≡ changes_in_chunk area chunk (changes_between v w)
changes_in-same area chunk old new v w of_old of_v before after =
    let q : ℕ → Bool = λ k. eqb (chunk_of area (position_of area k)) chunk in
    ap (λ (a : Area). filter (λ (c : Change). q c.index) (filter_map (change_at old new) (range_with_len 0 (volume a)))) of_old
    ∙ filtered_same q (change_at old new) (change_at v w) (change_at-placed old new) (change_at-placed v w) 0 (volume area) (volume area) (omega arith) (λ k below is.
    (let here = same_number (chunk_of area (position_of area k)) chunk is in
    let first = before k below here in
    let second = after k below here in
    λ i. cond (same_content (first i) (second i)) None (Some (record { index = k; before = first i; after = second i }))))
    ∙ sym (ap (λ (a : Area). filter (λ (c : Change). q c.index) (filter_map (change_at v w) (range_with_len 0 (volume a)))) of_v)

-- ---- lists of changes that have the same change of each place

joined_same : (test : Change → Bool) (f g : ℕ → List Change) (ns : List ℕ) → All (λ n. find test (f n) ≡ find test (g n)) ns
    → find test (flat_map (λ changes. changes) (reverse (map f ns))) ≡ find test (flat_map (λ changes. changes) (reverse (map g ns)))
joined_same test f g [] all = refl
joined_same test f g (n ∷ ns) all =
    let here = All-head (λ m. find test (f m) ≡ find test (g m)) n ns all in
    let later = joined_same test f g ns (All-tail (λ m. find test (f m) ≡ find test (g m)) n ns all) in
    last (f n) (map f ns) ∙ (λ i. option_or (later i) (here i)) ∙ sym (last (g n) (map g ns))
  where
    last : (xs : List Change) (xss : List (List Change))
        → find test (flat_map (λ changes. changes) (reverse (xs ∷ xss))) ≡ option_or (find test (flat_map (λ changes. changes) (reverse xss))) (find test xs)
    last xs xss =
        ap (λ (yss : List (List Change)). find test (flat_map (λ changes. changes) yss)) (reverse-append (xs ∷ []) xss)
        ∙ ap (find test) (flat_map-append (λ (changes : List Change). changes) (reverse xss) (xs ∷ []))
        ∙ find-append test (flat_map (λ changes. changes) (reverse xss)) (flat_map (λ changes. changes) (xs ∷ []))
        ∙ ap (λ (ys : List Change). option_or (find test (flat_map (λ changes. changes) (reverse xss))) (find test ys)) (append-nil xs)

-- ---- the kept changes of taken edits

module _ (case : Workload) (limits : IsWithinLimits case) (fits : is_world_box case.opening.area ≡ true) (keeps : Source → Bool) (order : List ℕ) (t : ℕ) (below : t < length order)
    (chunk index : ℕ) (inside : index < volume case.opening.area) (here : chunk_of case.opening.area (position_of case.opening.area index) ≡ chunk) where
  abbrev area : Area
  area = case.opening.area

  abbrev kept : List Recorded
  kept = map (recorded_by case order chunk) (filter (is_kept case keeps order chunk) (tickets_below t))

  abbrev is_here : Change → Bool
  is_here change = eqb change.index index

  -- the change of a place is found among those in its chunk
  in_chunk : (changes : List Change) → find is_here (changes_in_chunk area chunk changes) ≡ find is_here changes
  in_chunk changes =
      find_filter is_here (λ change. eqb (chunk_of area (position_of area change.index)) chunk)
      (λ change is. eq-eqb (chunk_of area (position_of area change.index)) chunk (ap (λ (k : ℕ). chunk_of area (position_of area k)) (same_number change.index index is) ∙ here)) changes

  -- a ticket that doesn't write the chunk doesn't change the place
  not_changed : (k : ℕ) → writes_chunk case order chunk k ≡ false → find is_here (changes_of case order k) ≡ None
  not_changed k out = unchanged case limits fits order k index inside (stays case limits fits order k index inside (ap (is_among (chunks_written case order k)) here ∙ out))

  kept_same : (k : ℕ) → k < t → keeps (source_of order k) ≡ true → find is_here (changes_kept kept (source_of order k)) ≡ find is_here (changes_of case order k)
  kept_same k less keep =
      by_found (find (λ r. is_same_source r.source (source_of order k)) kept) refl
      (found_is (λ (r : Recorded). r.source) (recorded_by case order chunk) order (λ s. refl) (is_kept case keeps order chunk) t (source_of order k))
    where
      by_write : (b : Bool) → writes_chunk case order chunk k ≡ b → find (λ r. is_same_source r.source (source_of order k)) kept ≡ None → None ≡ find is_here (changes_of case order k)
      by_write true is none =
          let some = found_some (λ (r : Recorded). r.source) (recorded_by case order chunk) order (λ s. refl) (is_kept case keeps order chunk) t k less (both_true is keep) in
          let nothing : Option Recorded = None in
          let never : is_some nothing ≡ true = ap (λ (o : Option Recorded). is_some o) (sym none) ∙ some in
          absurd cc
      by_write false is none = sym (not_changed k is)

      by_found : (o : Option Recorded) → find (λ r. is_same_source r.source (source_of order k)) kept ≡ o
          → IfSome o (IsMade (λ (r : Recorded). r.source) (recorded_by case order chunk) order (λ s. refl) (is_kept case keeps order chunk) t (source_of order k))
          → find is_here (option_map_or (λ (r : Recorded). r.changes) o []) ≡ find is_here (changes_of case order k)
      by_found None is made = by_write (writes_chunk case order chunk k) refl is
      by_found (Some r) is made =
          let low = made.listed.below in
          let same : made.ticket ≡ k =
          sym (ticket_of-source_of order made.ticket (omega (arith, low, below))) ∙ ap (ticket_of order) made.source ∙ ticket_of-source_of order k (omega (arith, less, below)) in
          ap (λ (x : Recorded). find is_here x.changes) (made.made ∙ ap (recorded_by case order chunk) same) ∙ in_chunk (changes_of case order k)

  -- the latest change of the place among the kept changes is that of the serial execution
  pub taken_same : KeepsTaken case keeps → (edits : List ℕ) → edits_taken_by (step_of_ticket case order t) ≡ edits
      → latest_change (map (λ n. changes_kept kept (record { player = player_of order t; step = n })) edits) index ≡ latest_change (taken_changes order (world_after case order) (player_of order t) edits) index
  taken_same taken edits is =
      joined_same is_here (λ n. changes_kept kept (record { player = player_of order t; step = n })) (λ n. changes_of case order (ticket_from order (player_of order t) n)) edits
      (subst (λ (ns : List ℕ). All (λ n. find is_here (changes_kept kept (record { player = player_of order t; step = n })) ≡ find is_here (changes_of case order (ticket_from order (player_of order t) n))) ns) is each)
    where
      each : All (λ n. find is_here (changes_kept kept (record { player = player_of order t; step = n })) ≡ find is_here (changes_of case order (ticket_from order (player_of order t) n))) (edits_taken_by (step_of_ticket case order t))
      each i d within =
          let n = get_or (edits_taken_by (step_of_ticket case order t)) i d in
          let player = player_of order t in
          let k = ticket_from order player n in
          let before : n < turns_of player (take t order) = (step_is_of_earlier player case.depth (lines_of case.scripts player) (command_number order t)).taken i d within in
          let few : n < turns_of player order = omega (arith, before, turns_of-take order player t) in
          let named = source_of_ticket order player n k (ticket_is_of order player n few) in
          subst (λ (id : Source). find is_here (changes_kept kept id) ≡ find is_here (changes_of case order k)) named
          (kept_same k (taken_earlier case order t i d within) (ap keeps named ∙ taken (source_of order t) i d within))
