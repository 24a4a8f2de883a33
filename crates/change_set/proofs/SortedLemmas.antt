-- Searching the cells of a part: they are in the order of their keys, and two positions of one key are one.
use Rattle.std.proofs.Common.{◌≡◌, ◌≢◌, ℕ, ◌<◌, List, Option, Some, None, length, slice_get, get_or, option_map, ℤ, inl, inr, refl, sym, ap, ◌∙◌, subst, arith}
use Rattle.std.specs.Ordering.{int_cmp, ordering_then, ordering_index}
use Rattle.std.specs.declared.cmp.Ordering.{Ordering}
use Rattle.std.specs.declared.cmp.Ordering.TheVariants.{Less, Equal, Greater}
use Rattle.std.specs.Cmp.{IsTotalOrder}
use Rattle.std.specs.List.{HoldsAt}
use Rattle.std.specs.List.Sorted.{IsNonDecreasingBy, IsPartitionPoint}
use Rattle.std.proofs.lemmas.Cmp.{int_cmp_total, then_total, on_total, tied_itself}
use Rattle.std.proofs.lemmas.List.Sorted.{searchable_from_sorted}
use Rattle.std.proofs.lemmas.Bool.{cases_lt}
use Rattle.std.proofs.lemmas.Option.{slice_get-get_or, slice_get_within, get_or_from_slice_get}
use Rattle.std.proofs.lemmas.Int.{ints}
use Rattle.edit_terms.specs.declared.pos.Pos.{Pos}
use Rattle.edit_terms.specs.World.{BlockContent, air_content}
use Rattle.edit_terms.specs.CellList.{position_in}
use Rattle.change_set.specs.Sorted.{position_cmp, AreInOrder}

-- the key of a position, and the order of keys
abbrev pub key_of : Pos → ℤ × ℤ × ℤ
key_of p = (p.y, p.z, p.x)

abbrev pub key_cmp : ℤ × ℤ × ℤ → ℤ × ℤ × ℤ → Ordering
key_cmp k l = ordering_then (ordering_then (int_cmp k.0 l.0) (int_cmp k.1 l.1)) (int_cmp k.2 l.2)

pub key_cmp_total : IsTotalOrder key_cmp
key_cmp_total = then_total (then_total (on_total (λ (k : ℤ × ℤ × ℤ). k.0) int_cmp_total) (on_total (λ (k : ℤ × ℤ × ℤ). k.1) int_cmp_total)) (on_total (λ (k : ℤ × ℤ × ℤ). k.2) int_cmp_total)

equal_parts : (o p : Ordering) → ordering_then o p ≡ Equal → (o ≡ Equal) × (p ≡ Equal)
equal_parts Less p e = absurd cc
equal_parts Equal p e = (refl, e)
equal_parts Greater p e = absurd cc

equal_int : (m n : ℤ) → int_cmp m n ≡ Equal → m ≡ n
equal_int m n e = grind (arith, ints)

-- positions that the order doesn't tell apart are one
pub same_position : (p q : Pos) → position_cmp p q ≡ Equal → p ≡ q
same_position p q e =
    let all = equal_parts (ordering_then (int_cmp p.y q.y) (int_cmp p.z q.z)) (int_cmp p.x q.x) e in
    let first = equal_parts (int_cmp p.y q.y) (int_cmp p.z q.z) all.0 in
    let y = equal_int p.y q.y first.0 in
    let z = equal_int p.z q.z first.1 in
    let x = equal_int p.x q.x all.1 in
    λ i. record { x = x i; y = y i; z = z i }

-- a cell whose key is equal has the position
pub found_cell : (cells : List (Pos × BlockContent)) (p : Pos) (i : ℕ) → i < length cells → HoldsAt (λ (c : Pos × BlockContent). position_cmp c.0 p ≡ Equal) cells i → position_in cells i ≡ Some p
found_cell cells p i below equal =
    let d : Pos × BlockContent = (p, air_content) in
    ap (option_map (λ (c : Pos × BlockContent). c.0)) (slice_get-get_or cells i d below) ∙ ap Some (same_position (get_or cells i d).0 p (equal d))

-- where a search finds none, no cell has the position
pub no_cell : (cells : List (Pos × BlockContent)) (p : Pos) (gap : ℕ) → AreInOrder cells
    → (IsNonDecreasingBy (λ c. ordering_index (position_cmp c.0 p)) cells → IsPartitionPoint (λ c. position_cmp c.0 p ≡ Less) (λ c. position_cmp c.0 p ≡ Greater) cells gap)
    → (i : ℕ) → position_in cells i ≢ Some p
no_cell cells p gap sorted parts i there = by (slice_get cells i) refl
  where
    split : IsPartitionPoint (λ (c : Pos × BlockContent). position_cmp c.0 p ≡ Less) (λ (c : Pos × BlockContent). position_cmp c.0 p ≡ Greater) cells gap
    split = parts (searchable_from_sorted key_cmp_total (λ (c : Pos × BlockContent). key_of c.0) cells (key_of p) sorted)

    by : (o : Option (Pos × BlockContent)) → slice_get cells i ≡ o → ⊥
    by None e = let none : option_map (λ (c : Pos × BlockContent). c.0) (slice_get cells i) ≡ None = ap (option_map (λ (c : Pos × BlockContent). c.0)) e in cc
    by (Some c) e =
        let at : Some c.0 ≡ Some p = sym (ap (option_map (λ (d : Pos × BlockContent). d.0)) e) ∙ there in
        let same : c.0 ≡ p = cc in
        let within = slice_get_within cells i c e in
        let read : get_or cells i c ≡ c = get_or_from_slice_get cells i c c e in
        let tied : position_cmp (get_or cells i c).0 p ≡ Equal =
        ap (λ (d : Pos × BlockContent). position_cmp d.0 p) read ∙ ap (λ (q : Pos). position_cmp q p) same ∙ tied_itself key_cmp_total (key_of p) in
        elim (cases_lt i gap) as (λ _. ⊥) [
          | inl before ↦ (let less = split.0 i c (omega arith) before in cc)
          | inr behind ↦ (let greater = split.1 i c behind within in cc)
        ]

-- the same from what is read and seen
pub found_read : (read cells : List (Pos × BlockContent)) (p : Pos) (key : ℤ × ℤ × ℤ) (i : ℕ) → read ≡ cells → key ≡ key_of p → i < length read
    → HoldsAt (λ (c : Pos × BlockContent). key_cmp (key_of c.0) key ≡ Equal) read i → position_in cells i ≡ Some p
found_read read cells p key i same is below equal =
    subst (λ (s : List (Pos × BlockContent)). position_in s i ≡ Some p) same
    (found_cell read p i below (subst (λ (k : ℤ × ℤ × ℤ). HoldsAt (λ (c : Pos × BlockContent). key_cmp (key_of c.0) k ≡ Equal) read i) is equal))

pub not_read : (read inside cells : List (Pos × BlockContent)) (p : Pos) (key : ℤ × ℤ × ℤ) (gap : ℕ) → read ≡ inside → inside ≡ cells → key ≡ key_of p → AreInOrder inside
    → (IsNonDecreasingBy (λ (c : Pos × BlockContent). ordering_index (key_cmp (key_of c.0) key)) read
    → IsPartitionPoint (λ (c : Pos × BlockContent). key_cmp (key_of c.0) key ≡ Less) (λ (c : Pos × BlockContent). key_cmp (key_of c.0) key ≡ Greater) read gap)
    → (i : ℕ) → position_in cells i ≢ Some p
not_read read inside cells p key gap same seen is sorted parts =
    let sorted_read : AreInOrder read = subst (λ (s : List (Pos × BlockContent)). AreInOrder s) (sym same) sorted in
    subst (λ (s : List (Pos × BlockContent)). (i : ℕ) → position_in s i ≢ Some p) (same ∙ seen)
    (no_cell read p gap sorted_read (subst (λ (k : ℤ × ℤ × ℤ). IsNonDecreasingBy (λ (c : Pos × BlockContent). ordering_index (key_cmp (key_of c.0) k)) read
    → IsPartitionPoint (λ (c : Pos × BlockContent). key_cmp (key_of c.0) k ≡ Less) (λ (c : Pos × BlockContent). key_cmp (key_of c.0) k ≡ Greater) read gap) is parts))
