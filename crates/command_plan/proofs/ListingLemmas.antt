-- The chunks of rectangles, row by row.
use Rattle.std.proofs.Common.{◌≡◌, ℕ, zero, suc, ◌+◌, ◌-◌, ◌*◌, ◌/◌, ◌%◌, ◌<◌, ◌≤◌, ◌⊎◌, inl, inr, Bool, true, false, cond, ◌&&◌, ◌||◌, List, [], ◌∷◌, ◌++◌, length, refl, sym, ◌∙◌, ap, arith}
use Rattle.std.specs.Prelude.{filter}
use Rattle.std.specs.List.{range_with_len}
use Rattle.std.specs.Cmp.Derive.{both_true}
use Rattle.std.proofs.Math.Nat.{mul-le-mul}
use Rattle.std.proofs.lemmas.Bool.Decides.{nat_tests}
use Rattle.std.proofs.lemmas.List.{length-append}
use Rattle.std.proofs.lemmas.List.FromFn.{length-range_with_len}
use Rattle.std.proofs.lemmas.Bool.{cases_lt}
use Rattle.std.proofs.lemmas.Nat.{div-mul-add, mod-mul-add, div-add-mod', div_below, mod_below}
use Rattle.command_plan.specs.declared.rectangle.ChunkGrid.{ChunkGrid}
use Rattle.command_plan.specs.declared.rectangle.Rectangle.{Rectangle}
use Rattle.command_plan.specs.declared.rectangle.Run.{Run}
use Rattle.command_plan.specs.declared.rectangle.ChunkSet.{ChunkSet}
use Rattle.command_plan.specs.Rectangles.{is_among, covers, is_in_set, IsChunkGrid, IsRunWithin, IsInside, IsPartOf, chunks_with, chunks_over}
use Rattle.command_plan.proofs.RunLemmas.{filter_none, filter_all, filter_split, trim, filter_agrees, filter_either}

-- ---- a chunk by its column and row

pub record IsAt (columns column row chunk : ℕ) : Type 0 where
  pub column_is : chunk % columns ≡ column
  pub row_is : chunk / columns ≡ row

pub at : (columns column row chunk : ℕ) → column < columns → chunk ≡ column + row * columns → IsAt columns column row chunk
at columns column row chunk inside is =
    let flat : chunk ≡ row * columns + column = omega (arith, is) in
    record {
      column_is = ap (λ (n : ℕ). n % columns) flat ∙ mod-mul-add row columns column inside;
      row_is = ap (λ (n : ℕ). n / columns) flat ∙ div-mul-add row columns column inside;
    }

pub covers_at : (columns : ℕ) (r : Rectangle) (column row : ℕ) → column < columns → covers columns r (column + row * columns) ≡ (is_among r.x column && is_among r.z row)
covers_at columns r column row inside = let is = at columns column row (column + row * columns) inside refl in let c = is.column_is in let d = is.row_is in rw (c, d) refl

pub set_at : (columns : ℕ) (s : ChunkSet) (column row : ℕ) → column < columns
    → is_in_set columns s (column + row * columns) ≡ ((is_among s.first.x column && is_among s.first.z row) || (is_among s.second.x column && is_among s.second.z row))
set_at columns s column row inside = let a = covers_at columns s.first column row inside in let b = covers_at columns s.second column row inside in rw (a, b) refl

-- ---- outside a rectangle

and_false : (b c : Bool) → c ≡ false → (b && c) ≡ false
and_false true c fails = fails
and_false false c fails = refl

before_run : (run : Run) (k : ℕ) → k < run.from → is_among run k ≡ false
before_run run k h = grind (arith, nat_tests)

behind_run : (run : Run) (k : ℕ) → run.to ≤ k → is_among run k ≡ false
behind_run run k h = grind (arith, nat_tests)

among_run : (run : Run) (k : ℕ) → run.from ≤ k → k < run.to → is_among run k ≡ true
among_run run k h g = grind (arith, nat_tests)

-- the row of a chunk
row_before : (columns chunk rows : ℕ) → 0 < columns → chunk < rows * columns → chunk / columns < rows
row_before columns chunk rows some h = div_below chunk columns rows some h

row_behind : (columns chunk rows : ℕ) → 0 < columns → rows * columns ≤ chunk → rows ≤ chunk / columns
row_behind columns chunk rows some h = elim (cases_lt (chunk / columns) rows) as (λ _. rows ≤ chunk / columns) [
  | inl few ↦
      let more : (chunk / columns + 1) * columns ≤ rows * columns = mul-le-mul (omega (arith, few)) (omega arith) in
      let whole : chunk / columns * columns + chunk % columns ≡ chunk = div-add-mod' chunk columns in
      let rest : chunk % columns < columns = mod_below chunk columns some in
      let next : (chunk / columns + 1) * columns ≡ chunk / columns * columns + columns = omega arith in
      absurd (omega (arith, more, whole, rest, next, h))
  | inr enough ↦ enough
]

-- A test that fails outside of a rectangle.
pub record IsBounded (columns : ℕ) (whole : Rectangle) (test : ℕ → Bool) : Type 0 where
  pub before_rows : (chunk : ℕ) → chunk < whole.z.from * columns → test chunk ≡ false
  pub behind_rows : (chunk : ℕ) → whole.z.to * columns ≤ chunk → test chunk ≡ false
  pub before_columns : (row chunk : ℕ) → row * columns ≤ chunk → chunk < whole.x.from + row * columns → whole.x.from ≤ columns → test chunk ≡ false
  pub behind_columns : (row chunk : ℕ) → whole.x.to + row * columns ≤ chunk → chunk < row * columns + columns → test chunk ≡ false

column_of : (columns row chunk : ℕ) → row * columns ≤ chunk → chunk < row * columns + columns → chunk % columns ≡ chunk - row * columns
column_of columns row chunk low high = (at columns (chunk - row * columns) row chunk (omega (arith, low, high)) (omega (arith, low))).column_is

pub covers_bounded : (columns : ℕ) (r whole : Rectangle) → 0 < columns → IsPartOf r whole → IsBounded columns whole (covers columns r)
covers_bounded columns r whole some part = record {
  before_rows = λ chunk h. let row = row_before columns chunk whole.z.from some h in and_false _ _ (before_run r.z (chunk / columns) (omega (arith, row, part.z_from)));
  behind_rows = λ chunk h. let row = row_behind columns chunk whole.z.to some h in and_false _ _ (behind_run r.z (chunk / columns) (omega (arith, row, part.z_to)));
  before_columns = λ row chunk low high fits.
      let column = column_of columns row chunk low (omega (arith, high, fits)) in
      ap (λ (b : Bool). b && is_among r.z (chunk / columns)) (before_run r.x (chunk % columns) (omega (arith, column, high, low, part.x_from)));
  behind_columns = λ row chunk low high.
      let column = column_of columns row chunk (omega (arith, low)) high in
      ap (λ (b : Bool). b && is_among r.z (chunk / columns)) (behind_run r.x (chunk % columns) (omega (arith, column, low, part.x_to)));
}

pub part_of_itself : (r : Rectangle) → IsPartOf r r
part_of_itself r = record { x_from = omega arith; x_to = omega arith; z_from = omega arith; z_to = omega arith }

or_both : (b c : Bool) → b ≡ false → c ≡ false → (b || c) ≡ false
or_both true c fails other = absurd cc
or_both false c fails other = other

pub set_bounded : (columns : ℕ) (s : ChunkSet) (whole : Rectangle) → 0 < columns → IsPartOf s.first whole → IsPartOf s.second whole → IsBounded columns whole (is_in_set columns s)
set_bounded columns s whole some one two =
    let p = covers_bounded columns s.first whole some one in
    let q = covers_bounded columns s.second whole some two in
    record {
      before_rows = λ chunk h. or_both _ _ (p.before_rows chunk h) (q.before_rows chunk h);
      behind_rows = λ chunk h. or_both _ _ (p.behind_rows chunk h) (q.behind_rows chunk h);
      before_columns = λ row chunk a b c. or_both _ _ (p.before_columns row chunk a b c) (q.before_columns row chunk a b c);
      behind_columns = λ row chunk a b. or_both _ _ (p.behind_columns row chunk a b) (q.behind_columns row chunk a b);
    }

-- ---- what passes the test, row by row

module _ (grid : ChunkGrid) (whole : Rectangle) (test : ℕ → Bool) (bounded : IsBounded grid.columns whole test) (inside : IsInside grid whole) where
  pub rows_start : filter test (range_with_len 0 (whole.z.from * grid.columns)) ≡ []
  rows_start = filter_none test 0 (whole.z.from * grid.columns) (λ k low high. bounded.before_rows k (omega (arith, high)))

  pub next_row : (row : ℕ) → filter test (range_with_len 0 ((row + 1) * grid.columns))
      ≡ filter test (range_with_len 0 (row * grid.columns)) ++ filter test (range_with_len (whole.x.from + row * grid.columns) (whole.x.to - whole.x.from))
  next_row row =
      let order = inside.x.order in let within = inside.x.within in
      let more : (row + 1) * grid.columns ≡ row * grid.columns + grid.columns = omega arith in
      let start : 0 + row * grid.columns ≡ row * grid.columns = omega arith in
      ap (λ (n : ℕ). filter test (range_with_len 0 n)) more
      ∙ filter_split test 0 (row * grid.columns) grid.columns
      ∙ ap (λ (n : ℕ). filter test (range_with_len 0 (row * grid.columns)) ++ filter test (range_with_len n grid.columns)) start
      ∙ ap (λ (ns : List ℕ). filter test (range_with_len 0 (row * grid.columns)) ++ ns)
      (trim test (row * grid.columns) grid.columns (whole.x.from + row * grid.columns) (whole.x.to - whole.x.from) (omega arith) (omega arith)
      (λ k low high. bounded.before_columns row k low high (omega arith)) (λ k low high. bounded.behind_columns row k (omega (arith, low)) high))

  pub rows_end : filter test (range_with_len 0 (whole.z.to * grid.columns)) ≡ chunks_with grid test
  rows_end =
      let fits : whole.z.to * grid.columns ≤ grid.rows * grid.columns = mul-le-mul inside.z.within (omega arith) in
      let order : grid.columns * grid.rows ≡ grid.rows * grid.columns = omega arith in
      sym (trim test 0 (grid.columns * grid.rows) 0 (whole.z.to * grid.columns) (omega arith) (omega (arith, fits, order))
      (λ k low high. absurd (omega (arith, high))) (λ k low high. bounded.behind_rows k (omega (arith, low))))

-- ---- how many chunks

full_row : (columns : ℕ) (r : Rectangle) (row : ℕ) → IsRunWithin r.x columns → is_among r.z row ≡ true
    → filter (covers columns r) (range_with_len (r.x.from + row * columns) (r.x.to - r.x.from)) ≡ range_with_len (r.x.from + row * columns) (r.x.to - r.x.from)
full_row columns r row inside among = filter_all (covers columns r) (r.x.from + row * columns) (r.x.to - r.x.from)
    (λ k low high.
    let within = inside.within in let order = inside.order in
    let is = at columns (k - row * columns) row k (omega (arith, low, high)) (omega (arith, low)) in
    both_true (ap (is_among r.x) is.column_is ∙ among_run r.x (k - row * columns) (omega (arith, low)) (omega (arith, low, high)))
    (ap (is_among r.z) is.row_is ∙ among))

size_of_rows : (grid : ChunkGrid) (r : Rectangle) → IsChunkGrid grid → IsInside grid r → (n : ℕ) → n ≤ r.z.to - r.z.from
    → length (filter (covers grid.columns r) (range_with_len 0 ((r.z.from + n) * grid.columns))) ≡ (r.x.to - r.x.from) * n
size_of_rows grid r is inside zero few =
    let e : r.z.from + 0 ≡ r.z.from = omega arith in
    ap (λ (k : ℕ). length (filter (covers grid.columns r) (range_with_len 0 (k * grid.columns)))) e
    ∙ ap (λ (ns : List ℕ). length ns) (rows_start grid r (covers grid.columns r) (covers_bounded grid.columns r r is.wide (part_of_itself r)) inside)
    ∙ omega arith
size_of_rows grid r is inside (suc n) few =
    let next : r.z.from + suc n ≡ r.z.from + n + 1 = omega arith in
    let row = r.z.from + n in
    let earlier = size_of_rows grid r is inside n (omega (arith, few)) in
    let among = among_run r.z row (omega arith) (omega (arith, few)) in
    ap (λ (k : ℕ). length (filter (covers grid.columns r) (range_with_len 0 (k * grid.columns)))) next
    ∙ ap (λ (ns : List ℕ). length ns) (next_row grid r (covers grid.columns r) (covers_bounded grid.columns r r is.wide (part_of_itself r)) inside row)
    ∙ length-append (filter (covers grid.columns r) (range_with_len 0 (row * grid.columns))) (filter (covers grid.columns r) (range_with_len (r.x.from + row * grid.columns) (r.x.to - r.x.from)))
    ∙ ap (λ (k : ℕ). k + length (filter (covers grid.columns r) (range_with_len (r.x.from + row * grid.columns) (r.x.to - r.x.from)))) earlier
    ∙ ap (λ (ns : List ℕ). (r.x.to - r.x.from) * n + length ns) (full_row grid.columns r row inside.x among)
    ∙ ap (λ (k : ℕ). (r.x.to - r.x.from) * n + k) (length-range_with_len (r.x.from + row * grid.columns) (r.x.to - r.x.from))
    ∙ omega arith

pub rectangle_size : (grid : ChunkGrid) (r : Rectangle) → IsChunkGrid grid → IsInside grid r → length (chunks_with grid (covers grid.columns r)) ≡ (r.x.to - r.x.from) * (r.z.to - r.z.from)
rectangle_size grid r is inside =
    let order = inside.z.order in
    let e : r.z.to ≡ r.z.from + (r.z.to - r.z.from) = omega arith in
    ap (λ (ns : List ℕ). length ns) (sym (rows_end grid r (covers grid.columns r) (covers_bounded grid.columns r r is.wide (part_of_itself r)) inside))
    ∙ ap (λ (k : ℕ). length (filter (covers grid.columns r) (range_with_len 0 (k * grid.columns)))) e
    ∙ size_of_rows grid r is inside (r.z.to - r.z.from) (omega arith)

pub chunk_count : (grid : ChunkGrid) (s : ChunkSet) (both : Rectangle) → ((chunk : ℕ) → covers grid.columns both chunk ≡ (covers grid.columns s.first chunk && covers grid.columns s.second chunk))
    → length (chunks_over grid s) + length (chunks_with grid (covers grid.columns both)) ≡ length (chunks_with grid (covers grid.columns s.first)) + length (chunks_with grid (covers grid.columns s.second))
chunk_count grid s both exact =
    let all = grid.columns * grid.rows in
    ap (λ (ns : List ℕ). length (chunks_over grid s) + length ns)
    (filter_agrees (covers grid.columns both) (λ k. covers grid.columns s.first k && covers grid.columns s.second k) 0 all (λ k low high. exact k))
    ∙ filter_either (covers grid.columns s.first) (covers grid.columns s.second) (range_with_len 0 all)

-- a number of the range more
pub filter_more : (test : ℕ → Bool) (a n k : ℕ) → a + n ≡ k → filter test (range_with_len a (n + 1)) ≡ filter test (range_with_len a n) ++ cond (test k) (k ∷ []) []
filter_more test a n k is = filter_split test a n 1 ∙ ap (λ (j : ℕ). filter test (range_with_len a n) ++ cond (test j) (j ∷ []) []) is
