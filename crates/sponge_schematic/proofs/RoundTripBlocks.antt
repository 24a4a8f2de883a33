-- The palette and the block data that are written are read again.
use Rattle.std.proofs.Common.{◌≡◌, ℕ, zero, suc, ◌+◌, ◌-◌, ◌*◌, ◌/◌, ◌%◌, ◌^◌, ◌<◌, ◌≤◌, Bool, true, false, cond, ltb, List, [], ◌∷◌, ◌++◌, length, map, get_or, Option, Some, None, Result, Ok, Err, All, refl, sym, ap, ◌∙◌, append_assoc, arith, inl, inr, ℤ, pos}
use Rattle.std.specs.Prelude.{slice_get}
use Rattle.std.specs.List.{flat_map, range_with_len, position_or_len, AllByRecursion, AllZip}
use Rattle.std.specs.Option.{ok_or}
use Rattle.std.specs.Ordering.{int_eq}
use Rattle.std.specs.Result.{result_ok}
use Rattle.std.proofs.Math.Nat.{pow-suc}
use Rattle.std.proofs.lemmas.Bool.{cases_lt, lt-ltb, le-ltb}
use Rattle.std.proofs.lemmas.Bool.Decides.{Decides-int_eq}
use Rattle.std.proofs.lemmas.List.{append-nil, length-map, get_or-map}
use Rattle.std.proofs.lemmas.List.Elements.{All-head, All-tail}
use Rattle.std.proofs.lemmas.List.FromFn.{length-map-range_with_len, get_or-map-range_with_len}
use Rattle.std.proofs.lemmas.List.Sums.{position_or_len_is}
use Rattle.std.proofs.lemmas.Option.{slice_get_within, get_or_from_slice_get}
use Rattle.edit_terms.specs.StateText.{State, TextFault, IsState, written_state, state_reading}
use Rattle.edit_terms.specs.Same.{same_state, state_decides, state_equivalence}
use Rattle.edit_terms.proofs.StateTextLemmas.{written_stands, state_read}
use Rattle.block_palette.specs.Numbering.{distinct, numbers, IsNumberOf}
use Rattle.block_palette.proofs.Numbering.{length-distinct}
use Rattle.block_palette.proofs.FirstAppearance.{IsNumbering-distinct, slice_get-numbers}
use Rattle.nbt_tags.specs.declared.tag.Tag.TheVariants as tags
use Rattle.sponge_schematic.specs.declared.fault.Field.TheVariants as fields
use Rattle.sponge_schematic.specs.declared.fault.WorldFault.{WorldFault}
use Rattle.sponge_schematic.specs.declared.fault.WorldFault.TheVariants as faults
use Rattle.sponge_schematic.specs.Fields.{◌>>=◌, int_in}
use Rattle.sponge_schematic.specs.Palette.{Entries, entry_at, entry_state, entries_from, with_entry_first}
use Rattle.sponge_schematic.specs.File.{entry_tag, entry_tags}
use Rattle.sponge_schematic.specs.Varint.{varint, varint_within, varint_from, varint_at}
use Rattle.sponge_schematic.specs.BlockData.{place_of, cell_at, cells_from, all_read, cells_in}

-- ---- the palette

ok_from : (r : Result State TextFault) (s : State) → result_ok r ≡ Some s → r ≡ Ok s
ok_from (Ok t) s h = ap (λ (u : State). Ok u) cc
ok_from (Err e) s h = absurd cc

-- a written state is read again
pub state_again : (s : State) → IsState s → state_reading (written_state s) ≡ Ok s
state_again s is = ok_from (state_reading (written_state s)) s ((state_read (written_state s) s).1 (written_stands s is))

entry_again : (index : ℕ) (s : State) → IsState s → entry_at index (entry_tag index s) ≡ Ok (pos index, s)
unfolding entry_at
entry_again index s is =
    ap (λ (r : Result ℤ WorldFault). r >>= λ (number : ℤ). entry_state index (state_reading (written_state s)) >>= λ (state : State). Ok (number, state)) (ap (int_in fields.Palette) (tags.outs-Int (pos index)))
    ∙ ap (λ (r : Result State TextFault). entry_state index r >>= λ (state : State). Ok (pos index, state)) (state_again s is)

-- the palette's entries that are written are read again, each with its place as its number
pub entries_again : (index : ℕ) (ss : List State) → All IsState ss → entries_from index (entry_tags index ss) ≡ Ok (record { numbers = map (λ n. pos n) (range_with_len index (length ss)); states = ss })
unfolding entries_from
entries_again index [] h = refl
entries_again index (s ∷ ss) h =
    ap (λ (r : Result (ℤ × State) WorldFault). r >>= λ (first : ℤ × State). entries_from (index + 1) (entry_tags (index + 1) ss) >>= λ (others : Entries). Ok (with_entry_first first others)) (entry_again index s (All-head IsState s ss h))
    ∙ ap (λ (r : Result Entries WorldFault). r >>= λ (others : Entries). Ok (with_entry_first (pos index, s) others)) (entries_again (index + 1) ss (All-tail IsState s ss h))

-- ---- the numbers

-- the number of an entry that has its place as its number
pub place_again : (k n : ℕ) → n < k → place_of (map (λ i. pos i) (range_with_len 0 k)) n ≡ Some n
place_again k n below =
    let p : ℤ → Bool = λ z. int_eq z (pos n) in
    let zs : List ℤ = map (λ i. pos i) (range_with_len 0 k) in
    let len : length zs ≡ k = length-map-range_with_len (λ i. pos i) 0 k in
    let at : (i : ℕ) → i < k → get_or zs i (pos 0) ≡ pos i = λ i lt. get_or-map-range_with_len (λ j. pos j) 0 k i i (pos 0) lt (omega arith) in
    let other : (i : ℕ) → i < n → p (get_or zs i (pos 0)) ≡ false = λ i lt. ap p (at i (omega (arith, lt, below))) ∙ apart i n lt in
    let own : p (get_or zs n (pos 0)) ≡ true = ap p (at n below) ∙ (Decides-int_eq (pos n) (pos n)).1 refl in
    let found : position_or_len p zs ≡ n = position_or_len_is p zs n (pos 0) (omega (arith, len, below)) other (λ lt. own) in
    ap (λ (m : ℕ). cond (ltb m (length zs)) (Some m) None) found
    ∙ ap (λ (b : Bool). cond b (Some n) None) (lt-ltb n (length zs) (omega (arith, len, below)))
  where
    is_false : (b : Bool) → (b ≡ true → ⊥) → b ≡ false
    is_false true h = absurd (h refl)
    is_false false h = refl

    apart : (i n : ℕ) → i < n → int_eq (pos i) (pos n) ≡ false
    apart i n lt = is_false (int_eq (pos i) (pos n)) (λ h. let same : pos i ≡ pos n = (Decides-int_eq (pos i) (pos n)).0 h in let e : i ≡ n = cc in omega (arith, e, lt))

-- ---- varints

smaller : (k n : ℕ) → n < 128 ^ suc (suc k) → n / 128 < 128 ^ suc k
smaller k n lt = let power : 128 ^ suc (suc k) ≡ 128 ^ suc k * 128 = pow-suc 128 (suc k) in omega (arith, power)

one_byte : (k n : ℕ) → n < 128 → varint_within k n ≡ n ∷ []
one_byte zero n lt = refl
one_byte (suc k) n lt = let e : ltb n 128 ≡ true = lt-ltb n 128 lt in rw e refl

more_bytes : (k n : ℕ) → 128 ≤ n → varint_within (suc k) n ≡ (128 + n % 128) ∷ varint_within k (n / 128)
more_bytes k n le = let e : ltb n 128 ≡ false = le-ltb n 128 le in rw e refl

-- room for one more byte changes nothing
within_more : (k n : ℕ) → n < 128 ^ suc k → varint_within (suc k) n ≡ varint_within k n
within_more zero n lt = one_byte 1 n (omega arith)
within_more (suc k) n lt =
    elim (cases_lt n 128) [
      | inl small ↦ one_byte (suc (suc k)) n small ∙ sym (one_byte (suc k) n small)
      | inr large ↦ more_bytes (suc k) n large ∙ ap (λ (bs : List ℕ). (128 + n % 128) ∷ bs) (within_more k (n / 128) (smaller k n lt)) ∙ sym (more_bytes k n large)
    ]

low_first : (cell at k n : ℕ) (bytes rest : List ℕ) → n < 128 → bytes ≡ n ∷ rest → varint_from cell at (suc k) bytes ≡ Ok (n, rest)
low_first cell at k n bytes rest lt e = let t : ltb n 128 ≡ true = lt-ltb n 128 lt in ap (varint_from cell at (suc k)) e ∙ rw t refl

high_first : (cell at k n : ℕ) (tail rest : List ℕ) → varint_from cell at k tail ≡ Ok (n / 128, rest) → varint_from cell at (suc k) ((128 + n % 128) ∷ tail) ≡ Ok (n, rest)
high_first cell at k n tail rest e =
    let t : ltb (128 + n % 128) 128 ≡ false = le-ltb (128 + n % 128) 128 (omega arith) in
    let sum : 128 + n % 128 - 128 + 128 * (n / 128) ≡ n = omega arith in
    rw (t, e) (ap (λ (m : ℕ). Ok (m, rest)) sum)

within_again : (cell at k n : ℕ) (rest : List ℕ) → n < 128 ^ suc k → varint_from cell at (suc k) (varint_within k n ++ rest) ≡ Ok (n, rest)
within_again cell at zero n rest lt = low_first cell at zero n (n ∷ rest) rest (omega arith) refl
within_again cell at (suc k) n rest lt =
    elim (cases_lt n 128) [
      | inl small ↦ low_first cell at (suc k) n (varint_within (suc k) n ++ rest) rest small (ap (λ (bs : List ℕ). bs ++ rest) (one_byte (suc k) n small))
      | inr large ↦ ap (λ (bs : List ℕ). varint_from cell at (suc (suc k)) (bs ++ rest)) (more_bytes k n large) ∙ high_first cell at (suc k) n (varint_within k (n / 128) ++ rest) rest (within_again cell at k (n / 128) rest (smaller k n lt))
    ]

-- a varint that is written is read again
pub varint_again : (cell at n : ℕ) (rest : List ℕ) → n < 2 ^ 28 → varint_at cell at (varint n ++ rest) ≡ Ok (n, rest)
unfolding varint varint_at
varint_again cell at n rest lt = ap (λ (bs : List ℕ). varint_from cell at 4 (bs ++ rest)) (within_more 3 n lt) ∙ within_again cell at 3 n rest lt

-- ---- the block data

-- a cell whose number is written is read again
cell_again : (zs : List ℤ) (size cell n : ℕ) (rest : List ℕ) → n < 2 ^ 28 → place_of zs n ≡ Some n → cell_at zs size cell (varint n ++ rest) ≡ Ok (n, rest)
unfolding cell_at
cell_again zs size cell n rest lt found =
    ap (λ (r : Result (ℕ × List ℕ) WorldFault). r >>= λ (number : ℕ × List ℕ). ok_or (place_of zs number.0) (faults.BadIndex cell number.0) >>= λ (place : ℕ). Ok (place, number.1))
    (varint_again cell (size - length (varint n ++ rest)) n rest lt)
    ∙ ap (λ (o : Option ℕ). ok_or o (faults.BadIndex cell n) >>= λ (place : ℕ). Ok (place, rest)) found

cells_again : (zs : List ℤ) (size cell : ℕ) (ns rest : List ℕ) → AllByRecursion (λ n. n < 2 ^ 28) ns → AllByRecursion (λ n. place_of zs n ≡ Some n) ns
    → cells_from zs size cell (length ns) (flat_map varint ns ++ rest) ≡ Ok (ns, rest)
unfolding cells_from
cells_again zs size cell [] rest small found = refl
cells_again zs size cell (n ∷ ns) rest small found =
    ap (λ (bs : List ℕ). cell_at zs size cell bs >>= λ (first : ℕ × List ℕ). cells_from zs size (cell + 1) (length ns) first.1 >>= λ (others : List ℕ × List ℕ). Ok (first.0 ∷ others.0, others.1)) (append_assoc (varint n) (flat_map varint ns) rest)
    ∙ ap (λ (r : Result (ℕ × List ℕ) WorldFault). r >>= λ (first : ℕ × List ℕ). cells_from zs size (cell + 1) (length ns) first.1 >>= λ (others : List ℕ × List ℕ). Ok (first.0 ∷ others.0, others.1)) (cell_again zs size cell n (flat_map varint ns ++ rest) small.0 found.0)
    ∙ ap (λ (r : Result (List ℕ × List ℕ) WorldFault). r >>= λ (others : List ℕ × List ℕ). Ok (n ∷ others.0, others.1)) (cells_again zs size (cell + 1) ns rest small.1 found.1)

-- the block data of so many numbers are read again
pub data_again : (zs : List ℤ) (volume : ℕ) (ns : List ℕ) → length ns ≡ volume → AllByRecursion (λ n. n < 2 ^ 28) ns → AllByRecursion (λ n. place_of zs n ≡ Some n) ns
    → cells_in zs volume (flat_map varint ns) ≡ Ok ns
unfolding cells_in
data_again zs volume ns long small found =
    let size : ℕ = length (flat_map varint ns) in
    ap (λ (n : ℕ). cells_from zs size 0 n (flat_map varint ns) >>= all_read) (sym long)
    ∙ ap (λ (bs : List ℕ). cells_from zs size 0 (length ns) bs >>= all_read) (sym (append-nil (flat_map varint ns)))
    ∙ ap (λ (r : Result (List ℕ × List ℕ) WorldFault). r >>= all_read) (cells_again zs size 0 ns [] small found)

-- ---- the numbers of a world's states

each_below : (same : State → State → Bool) (ds xs : List State) (ns : List ℕ) → AllZip (IsNumberOf same ds) xs ns → AllByRecursion (λ n. n < length ds) ns
each_below same ds [] [] h = tt
each_below same ds [] (n ∷ ns) h = absurd h
each_below same ds (x ∷ xs) [] h = absurd h
each_below same ds (x ∷ xs) (n ∷ ns) h = (slice_get_within ds n h.0.entry h.0.there, each_below same ds xs ns h.1)

pub numbers_below : (xs : List State) → AllByRecursion (λ n. n < length (distinct same_state xs)) (numbers same_state xs)
numbers_below xs = each_below same_state (distinct same_state xs) xs (numbers same_state xs) (IsNumbering-distinct state_equivalence xs).named

each_implied : {X : Type 0} (P Q : X → Type 0) → ((x : X) → P x → Q x) → (xs : List X) → AllByRecursion P xs → AllByRecursion Q xs
each_implied P Q f [] h = tt
each_implied P Q f (x ∷ xs) h = (f x h.0, each_implied P Q f xs h.1)

pub length-numbers : (xs : List State) → length (numbers same_state xs) ≡ length xs
unfolding numbers
length-numbers xs = length-map xs _

-- the block data of states are read again, where the palette's entries have their places as their numbers
pub block_data_again : (volume : ℕ) (xs : List State) → length xs ≡ volume → volume ≤ 33554432
    → cells_in (map (λ n. pos n) (range_with_len 0 (length (distinct same_state xs)))) volume (flat_map varint (numbers same_state xs)) ≡ Ok (numbers same_state xs)
block_data_again volume xs long few =
    let ds = distinct same_state xs in
    let zs = map (λ n. pos n) (range_with_len 0 (length ds)) in
    let below = numbers_below xs in
    let count : length ds ≤ length xs = length-distinct same_state xs in
    data_again zs volume (numbers same_state xs) (length-numbers xs ∙ long)
    (each_implied (λ n. n < length ds) (λ n. n < 2 ^ 28) (λ n lt. omega (arith, lt, count, long, few)) (numbers same_state xs) below)
    (each_implied (λ n. n < length ds) (λ n. place_of zs n ≡ Some n) (λ n lt. place_again (length ds) n lt) (numbers same_state xs) below)

-- the state of a number is the state that was numbered
pub state_of_number : (xs : List State) (k : ℕ) (d : State) → k < length xs → get_or (distinct same_state xs) (get_or (numbers same_state xs) k 0) d ≡ get_or xs k d
state_of_number xs k d lt =
    let ds = distinct same_state xs in
    let ns = numbers same_state xs in
    let both : map (slice_get ds) ns ≡ map (λ x. Some x) xs = slice_get-numbers state_equivalence (λ x y h. (state_decides x y).0 h) xs in
    let len = length-numbers xs in
    let left : get_or (map (slice_get ds) ns) k None ≡ slice_get ds (get_or ns k 0) = get_or-map (slice_get ds) ns k 0 None (omega (arith, len, lt)) in
    let right : get_or (map (λ x. Some x) xs) k None ≡ Some (get_or xs k d) = get_or-map (λ (x : State). Some x) xs k d None lt in
    let found : slice_get ds (get_or ns k 0) ≡ Some (get_or xs k d) = sym left ∙ ap (λ (os : List (Option State)). get_or os k None) both ∙ right in
    get_or_from_slice_get ds (get_or ns k 0) (get_or xs k d) d found
