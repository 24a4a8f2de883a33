-- Entities by the places of a box's list and by positions.
use Rattle.std.proofs.Common.{Less, ◌≡◌, ℕ, ◌+◌, ◌<◌, ◌≤◌, Bool, true, false, ◌&&◌, cond, List, [], ◌∷◌, length, map, Some, None, Option, refl, sym, ap, ◌∙◌, arith}
use Rattle.std.specs.Prelude.{nat_lt, option_map, nat_le, position, ◌==◌}
use Rattle.std.specs.Bool.{Decides}
use Rattle.std.specs.BTreeMap.{is_at}
use Rattle.std.specs.Ordering.{nat_cmp, int_eq}
use Rattle.std.specs.List.{position_or_len, find, AllByRecursion}
use Rattle.std.specs.List.Sorted.{IsStrictlySortedBy}
use Rattle.std.specs.Map.{keys_of, values_of, lookup}
use Rattle.std.specs.Cmp.{unsigned_tied, ranked}
use Rattle.std.specs.Cmp.Derive.{both_true}
use Rattle.std.specs.declared.sync.Arc.{Arc}
use Rattle.std.specs.declared.alloc.Global.{Global}
use Rattle.std.specs.Arc.{arc_value}
use Rattle.std.proofs.lemmas.Bool.{ltb-false, le-leb}
use Rattle.std.proofs.lemmas.Bool.Decides.{Decides-like, Decides-and, Decides-int_eq, Decides-at, Decides-eqb, same_from_decides}
use Rattle.std.proofs.lemmas.List.Sums.{prefix_len-le-length}
use Rattle.std.proofs.lemmas.Map.Keys.{sorted_head, sorted_tail}
use Rattle.edit_terms.specs.declared.pos.Pos.{Pos}
use Rattle.edit_terms.specs.Area.{Area, volume, index_of, position_of, is_world_box}
use Rattle.edit_terms.specs.Grid.{is_same_pos, is_rising_from, entity_of}
use Rattle.edit_terms.specs.World.{EntityTags}
use Rattle.edit_terms.proofs.AreaLemmas.{block_at_place}
use Rattle.block_entities.specs.Gathering.{positioned}

-- where no element passes, the first place that does is the length
pub length_no_position : {X : Type 0} (p : X → Bool) (xs : List X) → position p xs ≡ None → length xs ≡ position_or_len p xs
length_no_position p xs h = at (prefix_len-le-length _ xs) (nat_lt (position_or_len p xs) (length xs)) refl h
  where
    at : position_or_len p xs ≤ length xs → (b : Bool) → nat_lt (position_or_len p xs) (length xs) ≡ b → cond b (Some (position_or_len p xs)) None ≡ None → length xs ≡ position_or_len p xs
    at upper true e h = absurd cc
    at upper false e h = let lower : length xs ≤ position_or_len p xs = ltb-false (position_or_len p xs) (length xs) e in omega (arith, upper, lower)

-- the test tells whether two positions are one
pub is_same_pos-Decides : (p q : Pos) → Decides (is_same_pos p q) (p ≡ q)
is_same_pos-Decides p q =
    Decides-like (is_same_pos p q) (λ h. λ i. record { x = h.0.0 i; y = h.0.1 i; z = h.1 i })
    (λ e. ((ap (λ (r : Pos). r.x) e, ap (λ (r : Pos). r.y) e), ap (λ (r : Pos). r.z) e))
    (Decides-and (int_eq p.x q.x && int_eq p.y q.y) (int_eq p.z q.z) (Decides-and (int_eq p.x q.x) (int_eq p.y q.y) (Decides-int_eq p.x q.x) (Decides-int_eq p.y q.y)) (Decides-int_eq p.z q.z))

-- the place of the block at a place
pub index_of-position_of : (a : Area) (i : ℕ) → is_world_box a ≡ true → i < volume a → index_of a (position_of a i) ≡ i
index_of-position_of a i box below = (block_at_place a i box below).place

-- two places have one block only where they are one place
pub same_block-Decides : (a : Area) (i j : ℕ) → is_world_box a ≡ true → i < volume a → j < volume a → Decides (is_same_pos (position_of a j) (position_of a i)) (j ≡ i)
same_block-Decides a i j box below_i below_j =
    Decides-like (is_same_pos (position_of a j) (position_of a i))
    (λ e. sym (index_of-position_of a j box below_j) ∙ ap (index_of a) e ∙ index_of-position_of a i box below_i)
    (λ e. ap (position_of a) e)
    (is_same_pos-Decides (position_of a j) (position_of a i))

pub is_at-Decides : (i j : ℕ) → Decides (is_at (nat_cmp i) j) (j ≡ i)
is_at-Decides i j = Decides-at (is_at (nat_cmp i) j) (i == j) (unsigned_tied i j) (Decides-like (i == j) (λ e. sym e) (λ e. sym e) (Decides-eqb i j))

found_step : {X : Type 0} (p : Pos) (x : X) (f : X → EntityTags) (b c : Bool) (o : Option (Pos × EntityTags)) (r : Option X)
    → b ≡ c → option_map (λ (e : Pos × EntityTags). e.1) o ≡ option_map f r
    → option_map (λ (e : Pos × EntityTags). e.1) (cond b (Some (p, f x)) o) ≡ option_map f (cond c (Some x) r)
found_step p x f true true o r same h = refl
found_step p x f false false o r same h = h
found_step p x f true false o r same h = absurd cc
found_step p x f false true o r same h = absurd cc

-- the entity at the position of a place is the one of the place
pub entity_of-positioned : (a : Area) (es : List (ℕ × Arc EntityTags Global)) (i : ℕ) → is_world_box a ≡ true → i < volume a → AllByRecursion (λ k. k < volume a) (keys_of es)
    → entity_of (positioned a es) (position_of a i) ≡ option_map arc_value (lookup (is_at (nat_cmp i)) es)
entity_of-positioned a [] i box below each = refl
entity_of-positioned a (e ∷ es) i box below each =
    found_step (position_of a e.0) e.1 arc_value (is_same_pos (position_of a e.0) (position_of a i)) (is_at (nat_cmp i) e.0)
    (find (λ (f : Pos × EntityTags). is_same_pos f.0 (position_of a i)) (positioned a es)) (lookup (is_at (nat_cmp i)) es)
    (same_from_decides (is_same_pos (position_of a e.0) (position_of a i)) (is_at (nat_cmp i) e.0) (same_block-Decides a i e.0 box below each.0) (is_at-Decides i e.0))
    (entity_of-positioned a es i box below each.1)

each_weaker : {X : Type 0} (P Q : X → Type 0) → ((x : X) → P x → Q x) → (xs : List X) → AllByRecursion P xs → AllByRecursion Q xs
each_weaker P Q f [] h = tt
each_weaker P Q f (x ∷ xs) h = (f x h.0, each_weaker P Q f xs h.1)

pub each_from_zero : (xs : List ℕ) → AllByRecursion (λ k. 0 ≤ k) xs
each_from_zero [] = tt
each_from_zero (x ∷ xs) = (omega arith, each_from_zero xs)

-- entities in the order of their places rise
pub is_rising_from-positioned : (a : Area) (least : ℕ) (es : List (ℕ × Arc EntityTags Global)) → is_world_box a ≡ true
    → AllByRecursion (λ k. least ≤ k) (keys_of es) → AllByRecursion (λ k. k < volume a) (keys_of es) → IsStrictlySortedBy nat_cmp (keys_of es)
    → is_rising_from a least (positioned a es) ≡ true
is_rising_from-positioned a least [] box from below sorted = refl
is_rising_from-positioned a least (e ∷ es) box from below sorted =
    let block = block_at_place a e.0 box below.0 in
    let order : nat_le least (index_of a (position_of a e.0)) ≡ true = rw block.place (le-leb least e.0 from.0) in
    let later = each_weaker (λ k. nat_cmp e.0 k ≡ Less) (λ k. e.0 + 1 ≤ k) (λ k h. let less : e.0 < k = ranked e.0 k Less (sym h) in omega (arith, less)) (keys_of es) (sorted_head nat_cmp e.0 (keys_of es) sorted) in
    let rest = is_rising_from-positioned a (e.0 + 1) es box later below.1 (sorted_tail nat_cmp e.0 (keys_of es) sorted) in
    both_true (both_true block.held order) (rw block.place rest)

-- the entities by position are those by place
pub positioned-values : (a : Area) (es : List (ℕ × Arc EntityTags Global)) → map (λ (e : Pos × EntityTags). e.1) (positioned a es) ≡ map arc_value (values_of es)
positioned-values a [] = refl
positioned-values a (e ∷ es) = ap (λ (others : List EntityTags). arc_value e.1 ∷ others) (positioned-values a es)
