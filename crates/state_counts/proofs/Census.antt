-- The map of counts while it is made, and the census that it lists at last.
use Rattle.std.proofs.Common.{◌≡◌, ℕ, zero, suc, ◌+◌, ◌<◌, ◌≤◌, Bool, true, false, cond, List, [], ◌∷◌, length, get_or, map, Option, Some, Vec, refl, sym, ap, ◌∙◌, subst, inl, inr, arith, unwrap_or}
use Rattle.std.specs.Prelude.{count_by, nat_lt, ◌==◌, ◌&&◌, bytes_eq}
use Rattle.std.specs.Global.{Global}
use Rattle.std.specs.BTreeMap as tree
use Rattle.std.specs.BTreeMap.{BTreeMap, is_at}
use Rattle.std.specs.Cmp.{eq_by_cmp_equiv}
use Rattle.std.specs.Cmp.Lexicographic.{slice_cmp, bytes_decides, nat_list_cmp_total, nat_list_eq_equiv}
use Rattle.std.specs.List.{list_all, range_with_len, AllByRecursion}
use Rattle.std.specs.List.Sorted.{IsStrictlySortedBy}
use Rattle.std.specs.Map.{keys_of, update, lookup, KeepsOthers, IsKeyTest, AreApart}
use Rattle.std.specs.Ordering.{nat_cmp, is_eq, eq_by_cmp}
use Rattle.std.specs.declared.cmp.Ordering.TheVariants.{Less}
use Rattle.std.proofs.lemmas.Bool.{cases_Bool, cond-true, cond-false, and_parts, eqb-true}
use Rattle.std.proofs.lemmas.List.{get_or_default}
use Rattle.std.proofs.lemmas.List.FromFn.{fill_by_all}
use Rattle.std.proofs.lemmas.List.Sums.{count_by-le-length}
use Rattle.std.proofs.lemmas.Map.Text.{is_eq-slice_cmp}
use Rattle.edit_terms.specs.Area.{volume}
use Rattle.edit_terms.specs.Grid.{GridParts, content_of_cell, world_of, is_numbered}
use Rattle.edit_terms.specs.StateText.{State, air, written_state}
use Rattle.edit_terms.specs.World.{BlockContent}
use Rattle.state_counts.specs.Counts.{IsCensus, blocks_with, counted, count_beside, listed, blocks_of, count_of, count_below, IsCountedBelow, key_cmp}
use Rattle.state_counts.proofs.CountLemmas.{count_by-map, count_below_more, count_below_all, count_below_none}

-- ---- a count that is set in the map

other_entries : {K X : Type 0} (eq : K → K → Bool) (test : K → Bool) (old new : List (K × X)) → KeepsOthers eq test old new → (other : K → Bool) → IsKeyTest eq other → AreApart test other → lookup other new ≡ lookup other old
unfolding KeepsOthers
other_entries eq test old new h = h

apart : (bs cs ks : List ℕ) → bytes_eq bs cs ≡ false → is_eq (slice_cmp nat_cmp bs ks) ≡ true → is_eq (slice_cmp nat_cmp cs ks) ≡ false
apart bs cs ks differ same =
    is_eq-slice_cmp cs ks ∙ nat_list_eq_equiv.symm cs ks ∙ sym (nat_list_eq_equiv.congr bs ks cs (sym (is_eq-slice_cmp bs ks) ∙ same)) ∙ differ

-- a look-up by bytes after a value was set at a key
pub set_at_text : (old new : BTreeMap (Vec ℕ Global) ℕ) (key : Vec ℕ Global) (w : Option ℕ) → tree.Updates key_cmp old new key w → (text : List ℕ) → blocks_of new text ≡ update bytes_eq (blocks_of old) key.items w text
set_at_text old new key w updates text = elim (cases_Bool (bytes_eq key.items text)) [
  | inl same ↦ subst (λ (t : List ℕ). blocks_of new t ≡ w) ((bytes_decides key.items text).0 same) updates.1 ∙ sym (cond-true (bytes_eq key.items text) w (blocks_of old text) same)
  | inr differ ↦ other_entries (eq_by_cmp key_cmp) (is_at (key_cmp key)) old.entries new.entries updates.3 (is_at (λ k. slice_cmp nat_cmp text k.items))
      (λ x y. (eq_by_cmp_equiv nat_list_cmp_total).congr text x.items y.items)
      (λ k. apart key.items text k.items differ)
      ∙ sym (cond-false (bytes_eq key.items text) w (blocks_of old text) differ)
]

-- the same at a key of this text, whose count grows
pub added_at_text : (old new : BTreeMap (Vec ℕ Global) ℕ) (key : Vec ℕ Global) (word : List ℕ) (blocks before : ℕ) → key.items ≡ word → before ≡ count_of old key.items → tree.Updates key_cmp old new key (Some (before + blocks))
    → (text : List ℕ) → blocks_of new text ≡ update bytes_eq (blocks_of old) word (Some (count_of old word + blocks)) text
added_at_text old new key word blocks before is read updates text =
    set_at_text old new key (Some (before + blocks)) updates text
    ∙ ap (λ (n : ℕ). update bytes_eq (blocks_of old) key.items (Some (n + blocks)) text) read
    ∙ ap (λ (t : List ℕ). update bytes_eq (blocks_of old) t (Some (count_of old t + blocks)) text) is

-- ---- the counts of one kind more

-- a count that isn't 0 is counted
counted_some : (n : ℕ) → 0 < n → counted n ≡ Some n
counted_some zero some = absurd (omega arith)
counted_some (suc n) some = refl

-- the count that is read back
counted_back : (n : ℕ) → unwrap_or (counted n) 0 ≡ n
counted_back zero = refl
counted_back (suc n) = refl

-- a count of nothing changes none
plus_none : (n : ℕ) (b : Bool) → n + cond b 0 0 ≡ n
plus_none n true = omega arith
plus_none n false = omega arith

module _ (kinds : List State) (numbers : List ℕ) (kind : ℕ) (counts : BTreeMap (Vec ℕ Global) ℕ) (before : IsCountedBelow kinds numbers kind counts) where
  -- the count of the kind's text grows by the kind's blocks, and no other
  count_more : (text : List ℕ) → count_below kinds numbers (kind + 1) text ≡ count_below kinds numbers kind text + cond (bytes_eq (written_state (get_or kinds kind air)) text) (count_by (λ n. n == kind) numbers) 0
  count_more text = count_below_more (λ (n : ℕ). bytes_eq (written_state (get_or kinds n air)) text) kind numbers

  -- what the map has for a text
  count_is : (text : List ℕ) → count_of counts text ≡ count_below kinds numbers kind text
  count_is text = ap (λ (o : Option ℕ). unwrap_or o 0) (before text) ∙ counted_back (count_below kinds numbers kind text)

  -- no block has the kind
  pub counted_none : count_by (λ n. n == kind) numbers ≡ 0 → IsCountedBelow kinds numbers (kind + 1) counts
  counted_none none text =
      let b = bytes_eq (written_state (get_or kinds kind air)) text in
      before text
      ∙ ap counted (sym (count_more text ∙ ap (λ (n : ℕ). count_below kinds numbers kind text + cond (bytes_eq (written_state (get_or kinds kind air)) text) n 0) none ∙ plus_none (count_below kinds numbers kind text) b))

  -- the kind's text and its count
  module _ (text : List ℕ) (same : text ≡ written_state (get_or kinds kind air)) where
    count_here : count_below kinds numbers (kind + 1) text ≡ count_below kinds numbers kind text + count_by (λ n. n == kind) numbers
    count_here =
        count_more text ∙ ap (λ (n : ℕ). count_below kinds numbers kind text + n) (cond-true (bytes_eq (written_state (get_or kinds kind air)) text) (count_by (λ n. n == kind) numbers) 0 ((bytes_decides (written_state (get_or kinds kind air)) text).1 (sym same)))

    -- a kind's blocks more are at most as many as the numbers
    pub count_within : count_of counts text + count_by (λ n. n == kind) numbers ≤ length numbers
    count_within = omega (arith, count_is text, count_here, count_by-le-length (λ (n : ℕ). nat_lt n (kind + 1) && bytes_eq (written_state (get_or kinds n air)) text) numbers)

  -- the kind's blocks are counted for its text
  module _ (state : State) (blocks : ℕ) (here : state ≡ get_or kinds kind air) (tallied : blocks ≡ count_by (λ n. n == kind) numbers) (some : 0 < blocks) (new : BTreeMap (Vec ℕ Global) ℕ) (added : (text : List ℕ) → blocks_of new text ≡ update bytes_eq (blocks_of counts) (written_state state) (Some (count_of counts (written_state state) + blocks)) text) where
    word : List ℕ
    word = written_state state

    added_here : (text : List ℕ) → bytes_eq (written_state state) text ≡ true → blocks_of new text ≡ counted (count_below kinds numbers (kind + 1) text)
    added_here text same =
        let is : written_state state ≡ text = (bytes_decides (written_state state) text).0 same in
        let total : count_of counts (written_state state) + blocks ≡ count_below kinds numbers (kind + 1) text =
        ap (λ (t : List ℕ). count_of counts t + blocks) is ∙ ap (λ (n : ℕ). n + blocks) (count_is text) ∙ ap (λ (n : ℕ). count_below kinds numbers kind text + n) tallied
        ∙ sym (count_here text (sym is ∙ ap written_state here)) in
        added text ∙ cond-true (bytes_eq (written_state state) text) (Some (count_of counts (written_state state) + blocks)) (blocks_of counts text) same
        ∙ sym (counted_some (count_of counts (written_state state) + blocks) (omega (arith, some))) ∙ ap counted total

    added_there : (text : List ℕ) → bytes_eq (written_state state) text ≡ false → blocks_of new text ≡ counted (count_below kinds numbers (kind + 1) text)
    added_there text differ =
        let kind_differs : bytes_eq (written_state (get_or kinds kind air)) text ≡ false = ap (λ (s : State). bytes_eq (written_state s) text) (sym here) ∙ differ in
        let total : count_below kinds numbers (kind + 1) text ≡ count_below kinds numbers kind text =
        count_more text ∙ ap (λ (n : ℕ). count_below kinds numbers kind text + n) (cond-false (bytes_eq (written_state (get_or kinds kind air)) text) (count_by (λ n. n == kind) numbers) 0 kind_differs) ∙ omega arith in
        added text ∙ cond-false (bytes_eq (written_state state) text) (Some (count_of counts (written_state state) + blocks)) (blocks_of counts text) differ
        ∙ before text ∙ ap counted (sym total)

    pub counted_more : IsCountedBelow kinds numbers (kind + 1) new
    counted_more text = elim (cases_Bool (bytes_eq (written_state state) text)) [
      | inl same ↦ added_here text same
      | inr differ ↦ added_there text differ
    ]

-- a slot of a tally holds its kind's blocks
pub blocks_here : (kinds : List State) (numbers tallies : List ℕ) (kind : ℕ) → length tallies ≡ length kinds → ((k : ℕ) → k < length kinds → get_or tallies k 0 ≡ count_by (λ n. n == k) numbers) → kind < length kinds
    → (blocks : ℕ) → blocks ≡ get_or tallies kind blocks → blocks ≡ count_by (λ n. n == kind) numbers
blocks_here kinds numbers tallies kind long each within blocks read =
    let inside : kind < length tallies = omega (arith, long, within) in
    read ∙ get_or_default tallies kind blocks 0 inside ∙ each kind within

-- the state of a kind
pub state_here : (kinds : List State) (kind : ℕ) → kind < length kinds → (state : State) → state ≡ get_or kinds kind state → state ≡ get_or kinds kind air
state_here kinds kind within state read = read ∙ get_or_default kinds kind state air within

-- ---- the census at last

-- a look-up in the list is one in the map
beside_is : (text : List ℕ) (entries : List (Vec ℕ Global × ℕ)) → count_beside (map (λ e. (e.0.items, e.1)) entries) text ≡ lookup (is_at (λ k. slice_cmp nat_cmp text k.items)) entries
beside_is text [] = refl
beside_is text (e ∷ es) = elim (cases_Bool (bytes_eq text e.0.items)) [
  | inl same ↦ rw (same, is_eq-slice_cmp text e.0.items ∙ same) refl
  | inr differ ↦ rw (differ, is_eq-slice_cmp text e.0.items ∙ differ) (beside_is text es)
]

rising_front : (k : Vec ℕ Global) (es : List (Vec ℕ Global × ℕ)) → AllByRecursion (λ y. key_cmp k y ≡ Less) (keys_of es)
    → AllByRecursion (λ y. slice_cmp nat_cmp k.items y ≡ Less) (map {A = List ℕ × ℕ} (λ (e : List ℕ × ℕ). e.0) (map {A = Vec ℕ Global × ℕ} {B = List ℕ × ℕ} (λ (e : Vec ℕ Global × ℕ). (e.0.items, e.1)) es))
rising_front k [] h = tt
rising_front k (e ∷ es) h = (h.0, rising_front k es h.1)

-- the texts rise as the keys do
rising_texts : (es : List (Vec ℕ Global × ℕ)) → IsStrictlySortedBy key_cmp (keys_of es) → IsStrictlySortedBy (slice_cmp nat_cmp) (map {A = List ℕ × ℕ} (λ (e : List ℕ × ℕ). e.0) (map {A = Vec ℕ Global × ℕ} {B = List ℕ × ℕ} (λ (e : Vec ℕ Global × ℕ). (e.0.items, e.1)) es))
unfolding IsStrictlySortedBy
rising_texts [] h = tt
rising_texts (e ∷ es) h = (rising_front e.0 es h.0, rising_texts es h.1)

-- the blocks of a world with a text are the numbers of kinds with that text
blocks_counted : (g : GridParts) (text : List ℕ) → is_numbered g.area g.kinds g.cells ≡ true → blocks_with (world_of g) text ≡ count_by (λ n. bytes_eq (written_state (get_or g.kinds n air)) text) g.cells
blocks_counted g text numbered =
    let parts = and_parts (length g.cells == volume g.area) (list_all (λ (n : ℕ). nat_lt n (length g.kinds)) g.cells) numbered in
    let long : length g.cells ≡ volume g.area = eqb-true (length g.cells) (volume g.area) parts.0 in
    let cells : g.cells ≡ map (λ (i : ℕ). get_or g.cells i 0) (range_with_len 0 (volume g.area)) = fill_by_all (λ (i : ℕ). get_or g.cells i 0) g.cells (volume g.area) 0 long (λ k within. refl) in
    count_by-map (λ (c : BlockContent). bytes_eq (written_state c.state) text) (content_of_cell g) (range_with_len 0 (volume g.area))
    ∙ sym (count_by-map (λ (n : ℕ). bytes_eq (written_state (get_or g.kinds n air)) text) (λ (i : ℕ). get_or g.cells i 0) (range_with_len 0 (volume g.area)))
    ∙ ap (λ (ns : List ℕ). count_by (λ n. bytes_eq (written_state (get_or g.kinds n air)) text) ns) (sym cells)

-- the counts of all kinds are the census
census_of_all : (g : GridParts) (counts : BTreeMap (Vec ℕ Global) ℕ) → is_numbered g.area g.kinds g.cells ≡ true → tree.IsOrdered key_cmp counts → IsCountedBelow g.kinds g.cells (length g.kinds) counts → IsCensus (world_of g) (listed counts)
census_of_all g counts numbered ordered all = record { rising = rising_texts counts.entries ordered; counts = beside }
  where
    below : list_all (λ (n : ℕ). nat_lt n (length g.kinds)) g.cells ≡ true
    below = (and_parts (length g.cells == volume g.area) (list_all (λ (n : ℕ). nat_lt n (length g.kinds)) g.cells) numbered).1

    beside : (text : List ℕ) → count_beside (listed counts) text ≡ counted (blocks_with (world_of g) text)
    beside text =
        beside_is text counts.entries ∙ all text
        ∙ ap counted (count_below_all (λ (n : ℕ). bytes_eq (written_state (get_or g.kinds n air)) text) (length g.kinds) g.cells below ∙ sym (blocks_counted g text numbered))

-- the same over the kinds and the cells that a grid gives
pub census_of_kinds : (g : GridParts) (kinds : List State) (cells : List ℕ) → kinds ≡ g.kinds → cells ≡ g.cells → is_numbered g.area g.kinds g.cells ≡ true → (counts : BTreeMap (Vec ℕ Global) ℕ) → tree.IsOrdered key_cmp counts
    → IsCountedBelow kinds cells (length kinds) counts → IsCensus (world_of g) (listed counts)
census_of_kinds g kinds cells same_kinds same_cells numbered counts ordered all =
    census_of_all g counts numbered ordered
    (subst (λ (ns : List ℕ). IsCountedBelow g.kinds ns (length g.kinds) counts) same_cells (subst (λ (ks : List State). IsCountedBelow ks cells (length ks) counts) same_kinds all))

-- no kind is counted at first
pub counted_first : (kinds : List State) (numbers : List ℕ) (counts : BTreeMap (Vec ℕ Global) ℕ) → tree.IsEmpty counts → IsCountedBelow kinds numbers 0 counts
counted_first kinds numbers counts empty text =
    ap (λ (es : List (Vec ℕ Global × ℕ)). lookup (is_at (λ (k : Vec ℕ Global). slice_cmp nat_cmp text k.items)) es) empty
    ∙ ap counted (sym (count_below_none (λ (n : ℕ). bytes_eq (written_state (get_or kinds n air)) text) numbers))
