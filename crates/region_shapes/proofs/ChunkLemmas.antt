-- The list of chunks by rows rises, and has exactly the chunks with a block of the part.
use Rattle.std.proofs.Common.{◌≡◌, ℕ, zero, suc, ◌+◌, ◌-◌, ◌*◌, ◌<◌, ◌≤◌, ◌⊎◌, inl, inr, true, ◌&&◌, List, [], ◌∷◌, ◌++◌, get_or, ℤ, pos, ◌+ℤ◌, ◌*ℤ◌, ◌≤ℤ◌, refl, sym, ◌∙◌, ap, subst, arith, append_assoc}
use Rattle.std.specs.Prelude.{nat_le}
use Rattle.std.specs.Int.{int_max}
use Rattle.std.specs.List.{All, Contains, range_with_len}
use Rattle.std.specs.Cmp.Derive.{both_true}
use Rattle.std.proofs.lemmas.Bool.Decides.{nat_tests}
use Rattle.std.proofs.lemmas.Int.{ints}
use Rattle.std.proofs.lemmas.List.{append-nil}
use Rattle.std.proofs.lemmas.List.FromFn.{length-range_with_len, get_or-range_with_len}
use Rattle.std.proofs.lemmas.List.Elements.{All-nil, All-append, Contains-append_left, Contains-append_right}
use Rattle.edit_terms.specs.declared.pos.Pos.{Pos}
use Rattle.edit_terms.specs.Area.{Area, is_from, is_within, is_part, holds, offset, sixteenth, columns, chunk_of, is_world_box}
use Rattle.edit_terms.proofs.AreaLemmas.{and_both, limits}
use Rattle.edit_terms.proofs.ColumnLemmas.{IsWithinAxis, within_axis, block_in_column, column_of_block, columns_within, few_columns}
use Rattle.region_shapes.specs.Chunks.{is_rising_from, IsTouched, columns_before, chunk_rows, chunk_list}

-- ---- lists of consecutive numbers

rising_sooner : (l m : ℕ) (ns : List ℕ) → l ≤ m → is_rising_from m ns ≡ true → is_rising_from l ns ≡ true
rising_sooner l m [] h rises = refl
rising_sooner l m (n ∷ ns) h rises =
    let parts = and_both (nat_le m n) (is_rising_from (n + 1) ns) rises in
    both_true (sooner l m n h parts.0) parts.1
  where
    sooner : (l m n : ℕ) → l ≤ m → nat_le m n ≡ true → nat_le l n ≡ true
    sooner l m n h e = grind (arith, nat_tests)

rising_run : (low a n : ℕ) (ns : List ℕ) → low ≤ a → is_rising_from (a + n) ns ≡ true → is_rising_from low (range_with_len a n ++ ns) ≡ true
rising_run low a zero ns h rises = rising_sooner low (a + 0) ns (omega (arith, h)) rises
rising_run low a (suc n) ns h rises =
    let e : a + suc n ≡ a + 1 + n = omega arith in
    both_true (tested low a h) (rising_run (a + 1) (a + 1) n ns (omega arith) (subst (λ (k : ℕ). is_rising_from k ns ≡ true) e rises))
  where
    tested : (l n : ℕ) → l ≤ n → nat_le l n ≡ true
    tested l n h = grind (arith, nat_tests)

rising_rows : (first count step row rows low : ℕ) → first + count ≤ step → low ≤ first + row * step → is_rising_from low (chunk_rows first count step row rows) ≡ true
rising_rows first count step row zero low fits h = refl
rising_rows first count step row (suc rows) low fits h =
    let next : (row + 1) * step ≡ row * step + step = omega arith in
    rising_run low (first + row * step) count (chunk_rows first count step (row + 1) rows) h
    (rising_rows first count step (row + 1) rows (first + row * step + count) fits (omega (arith, next, fits)))

all_run : (P : ℕ → Type 0) (a n : ℕ) → ((k : ℕ) → a ≤ k → k < a + n → P k) → All P (range_with_len a n)
all_run P a n h k d below =
    let in_n : k < n = subst (λ (m : ℕ). k < m) (length-range_with_len a n) below in
    subst P (sym (get_or-range_with_len a n k d in_n)) (h (a + k) (omega arith) (omega (arith, in_n)))

all_rows : (P : ℕ → Type 0) (first count step row rows : ℕ)
    → ((x z : ℕ) → first ≤ x → x < first + count → row ≤ z → z < row + rows → P (x + z * step)) → All P (chunk_rows first count step row rows)
all_rows P first count step row zero h = All-nil P
all_rows P first count step row (suc rows) h =
    All-append P (range_with_len (first + row * step) count) (chunk_rows first count step (row + 1) rows)
    (all_run P (first + row * step) count (λ k low high.
    let back : k - row * step + row * step ≡ k = omega (arith, low) in
    subst P back (h (k - row * step) row (omega (arith, low)) (omega (arith, low, high)) (omega arith) (omega arith))))
    (all_rows P first count step (row + 1) rows (λ x z a b c d. h x z a b (omega (arith, c)) (omega (arith, d))))

in_run : (a n k : ℕ) → a ≤ k → k < a + n → Contains (range_with_len a n) k
in_run a n k low high =
    let place : k - a < n = omega (arith, low, high) in
    let at : get_or (range_with_len a n) (k - a) k ≡ k = get_or-range_with_len a n (k - a) k place ∙ omega (arith, low) in
    (k - a, subst (λ (m : ℕ). k - a < m) (sym (length-range_with_len a n)) place, at)

in_rows : (first count step row rows x z : ℕ) → first ≤ x → x < first + count → row ≤ z → z < row + rows → Contains (chunk_rows first count step row rows) (x + z * step)
in_rows first count step row zero x z a b c d = absurd (omega (arith, c, d))
in_rows first count step row (suc rows) x z a b c d =
    elim (same_or_later row z c) as (λ _. Contains (chunk_rows first count step row (suc rows)) (x + z * step)) [
      | inl e ↦ Contains-append_left (range_with_len (first + row * step) count) (chunk_rows first count step (row + 1) rows) (x + z * step)
          (in_run (first + row * step) count (x + z * step) (rw e (omega (arith, a))) (rw e (omega (arith, b))))
      | inr later ↦ Contains-append_right (range_with_len (first + row * step) count) (chunk_rows first count step (row + 1) rows) (x + z * step)
          (in_rows first count step (row + 1) rows x z a b later (omega (arith, d)))
    ]
  where
    same_or_later : (row z : ℕ) → row ≤ z → (z ≡ row) ⊎ (row + 1 ≤ z)
    same_or_later row z c = grind (arith)

-- ---- the part's chunks

pub record IsInBox (part a : Area) : Type 0 where
  pub x : IsWithinAxis a.least.x a.width part.least.x part.width
  pub z : IsWithinAxis a.least.z a.length part.least.z part.length

pub in_box : (part a : Area) → is_part part a ≡ true → IsInBox part a
in_box part a h =
    let first = and_both (is_within a.least.x a.width part.least.x part.width && is_within a.least.y a.height part.least.y part.height) (is_within a.least.z a.length part.least.z part.length) h in
    let two = and_both (is_within a.least.x a.width part.least.x part.width) (is_within a.least.y a.height part.least.y part.height) first.0 in
    record { x = within_axis _ _ _ _ two.0; z = within_axis _ _ _ _ first.1 }

pub chunk_list_rising : (part a : Area) → is_world_box part ≡ true → is_part part a ≡ true → is_rising_from 0 (chunk_list part a) ≡ true
chunk_list_rising part a world h =
    let sizes = limits part world in
    rising_rows (columns_before a.least.x part.least.x) (columns part.least.x part.width) (columns a.least.x a.width) (columns_before a.least.z part.least.z) (columns part.least.z part.length) 0
    (columns_within a.least.x a.width part.least.x part.width sizes.width (in_box part a h).x) (omega arith)

pub chunk_list_touched : (part a : Area) → is_world_box part ≡ true → is_part part a ≡ true → All (IsTouched part a) (chunk_list part a)
chunk_list_touched part a world h =
    let sizes = limits part world in
    let inside = in_box part a h in
    all_rows (IsTouched part a) (columns_before a.least.x part.least.x) (columns part.least.x part.width) (columns a.least.x a.width) (columns_before a.least.z part.least.z) (columns part.least.z part.length)
    (λ x z b c d e.
    let bx = block_in_column a.least.x part.least.x part.width x inside.x.from sizes.width b c in
    let bz = block_in_column a.least.z part.least.z part.length z inside.z.from sizes.length d e in
    let vx = int_max part.least.x ((sixteenth a.least.x +ℤ pos x) *ℤ pos 16) in
    let vz = int_max part.least.z ((sixteenth a.least.z +ℤ pos z) *ℤ pos 16) in
    record {
      block = record { x = vx; y = part.least.y; z = vz };
      held = both_true (both_true bx.held (first_held part.least.y part.height sizes.height)) bz.held;
      place = rw (bx.column, bz.column) refl;
    })
  where
    first_held : (low : ℤ) (size : ℕ) → 0 < size → is_from low size low ≡ true
    first_held low size h = grind (arith, ints)

pub chunk_list_whole : (part a : Area) → is_part part a ≡ true → (p : Pos) → holds part p ≡ true → Contains (chunk_list part a) (chunk_of a p)
chunk_list_whole part a h p held =
    let inside = in_box part a h in
    let first = and_both (is_from part.least.x part.width p.x && is_from part.least.y part.height p.y) (is_from part.least.z part.length p.z) held in
    let two = and_both (is_from part.least.x part.width p.x) (is_from part.least.y part.height p.y) first.0 in
    let x = column_of_block a.least.x part.least.x part.width p.x inside.x.from two.0 in
    let z = column_of_block a.least.z part.least.z part.length p.z inside.z.from first.1 in
    in_rows (columns_before a.least.x part.least.x) (columns part.least.x part.width) (columns a.least.x a.width) (columns_before a.least.z part.least.z) (columns part.least.z part.length)
    (offset (sixteenth a.least.x) (sixteenth p.x)) (offset (sixteenth a.least.z) (sixteenth p.z)) x.from x.to z.from z.to

-- the same of a part of a world's box, along both axes
pub record IsPartColumns (part a : Area) : Type 0 where
  pub x : columns_before a.least.x part.least.x + columns part.least.x part.width ≤ columns a.least.x a.width
  pub z : columns_before a.least.z part.least.z + columns part.least.z part.length ≤ columns a.least.z a.length
  pub few_x : columns a.least.x a.width ≤ 4097
  pub few_z : columns a.least.z a.length ≤ 4097
  pub from_x : a.least.x ≤ℤ part.least.x
  pub from_z : a.least.z ≤ℤ part.least.z

pub part_columns : (part a : Area) → is_world_box part ≡ true → is_world_box a ≡ true → is_part part a ≡ true → IsPartColumns part a
part_columns part a world whole h =
    let sizes = limits part world in
    let all = limits a whole in
    let inside = in_box part a h in
    record {
      x = columns_within a.least.x a.width part.least.x part.width sizes.width inside.x;
      z = columns_within a.least.z a.length part.least.z part.length sizes.length inside.z;
      few_x = few_columns a.least.x a.width all.narrow;
      few_z = few_columns a.least.z a.length all.short;
      from_x = inside.x.from;
      from_z = inside.z.from;
    }

-- one row more
pub chunk_rows-more : (first count step row rows : ℕ) → chunk_rows first count step row (rows + 1) ≡ chunk_rows first count step row rows ++ range_with_len (first + (row + rows) * step) count
chunk_rows-more first count step row zero = let e : row + 0 ≡ row = omega arith in rw e (append-nil (range_with_len (first + row * step) count))
chunk_rows-more first count step row (suc rows) =
    let e : row + 1 + rows ≡ row + suc rows = omega arith in
    let size : suc rows + 1 ≡ suc (rows + 1) = omega arith in
    let next = chunk_rows-more first count step (row + 1) rows in
    ap (λ (n : ℕ). chunk_rows first count step row n) size
    ∙ ap (λ ns. range_with_len (first + row * step) count ++ ns) next
    ∙ rw e (sym (append_assoc (range_with_len (first + row * step) count) (chunk_rows first count step (row + 1) rows) (range_with_len (first + (row + suc rows) * step) count)))

pub chunk_rows_more : (first count step row i : ℕ) → row ≤ i → chunk_rows first count step row (i + 1 - row) ≡ chunk_rows first count step row (i - row) ++ range_with_len (first + i * step) count
chunk_rows_more first count step row i h =
    let size : i + 1 - row ≡ i - row + 1 = omega (arith, h) in
    let place : row + (i - row) ≡ i = omega (arith, h) in
    ap (λ (n : ℕ). chunk_rows first count step row n) size
    ∙ chunk_rows-more first count step row (i - row)
    ∙ ap (λ (n : ℕ). chunk_rows first count step row (i - row) ++ range_with_len (first + n * step) count) place
