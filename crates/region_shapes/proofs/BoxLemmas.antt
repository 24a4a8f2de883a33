-- A box's rows, one behind the other, are the box's positions in index order; and so the spans of all rows have the
-- positions of the box that belong to the region.
use Rattle.std.proofs.Common.{◌≡◌, ℕ, zero, suc, ◌+◌, ◌-◌, ◌*◌, ◌/◌, ◌%◌, ◌<◌, ◌≤◌, [], ◌∷◌, ◌++◌, true, pos, ◌+ℤ◌, ◌<ℤ◌, refl, sym, ◌∙◌, ap, subst, arith}
use Rattle.std.specs.Prelude.{map, None}
use Rattle.std.specs.List.{All, range_with_len, filter}
use Rattle.std.proofs.lemmas.List.{map-append}
use Rattle.std.proofs.lemmas.List.Elements.{filter-append, All-nil, All-append}
use Rattle.std.proofs.lemmas.Nat.{div-mul-add, mod-mul-add, div_below, mod_below}
use Rattle.std.proofs.Math.Nat.{div-div-eq-div-mul}
use Rattle.edit_terms.specs.declared.pos.Pos.{Pos}
use Rattle.edit_terms.specs.declared.region.Region.{Region}
use Rattle.edit_terms.specs.Area.{Area, position_of, volume, is_world_box}
use Rattle.edit_terms.proofs.AreaLemmas.{limits, on_map}
use Rattle.std.proofs.lemmas.Int.{ints}
use Rattle.edit_terms.specs.Region.{is_inside}
use Rattle.region_shapes.specs.Rows.{IsBounded}
use Rattle.region_shapes.specs.Spans.{along, all_positions, region_positions, IsMaximal}
use Rattle.region_shapes.specs.SpansLeft.{numbered_spans, spans_from, spans_left}
use Rattle.region_shapes.proofs.RunLemmas.{range-append}
use Rattle.region_shapes.proofs.SpanLemmas.{corner, all_positions-append, row_spans-positions}
use Rattle.region_shapes.proofs.EndLemmas.{row_spans-maximal}

-- two lists made alike of numbers from different ones on
made_alike : {X : Type 0} (g h : ℕ → X) (s a n : ℕ) → ((k : ℕ) → k < n → g (s + k) ≡ h (a + k)) → map g (range_with_len s n) ≡ map h (range_with_len a n)
made_alike g h s a zero same = refl
made_alike g h s a (suc n) same =
    let es : s + 0 ≡ s = omega arith in
    let ea : a + 0 ≡ a = omega arith in
    let first : g s ≡ h a = ap g (sym es) ∙ same 0 (omega arith) ∙ ap h ea in
    rw first (ap (λ xs. h a ∷ xs) (made_alike g h (s + 1) (a + 1) n (λ k below.
    let fs : s + 1 + k ≡ s + (k + 1) = omega arith in
    let fa : a + (k + 1) ≡ a + 1 + k = omega arith in
    ap g fs ∙ same (k + 1) (omega arith) ∙ ap h fa)))

-- the corner of the row of this number
abbrev row_corner : Area → ℕ → Pos
row_corner a n = corner a.least.x (a.least.y +ℤ pos (n / a.length)) (a.least.z +ℤ pos (n % a.length))

-- the block at so many places behind a row's first
place_in_row : (a : Area) (n k : ℕ) → k < a.width → position_of a (n * a.width + k) ≡ along (row_corner a n) k
place_in_row a n k below =
    let x : (n * a.width + k) % a.width ≡ k = mod-mul-add n a.width k below in
    let row : (n * a.width + k) / a.width ≡ n = div-mul-add n a.width k below in
    let y : (n * a.width + k) / (a.width * a.length) ≡ n / a.length = sym (div-div-eq-div-mul (n * a.width + k) a.width a.length) ∙ ap (λ (m : ℕ). m / a.length) row in
    let z : (n * a.width + k) / a.width % a.length ≡ n % a.length = ap (λ (m : ℕ). m % a.length) row in
    λ i. record { x = a.least.x +ℤ pos (x i); y = a.least.y +ℤ pos (y i); z = a.least.z +ℤ pos (z i) }

-- the positions of one row
row_positions : (a : Area) (n : ℕ) → map (position_of a) (range_with_len (n * a.width) a.width) ≡ map (along (row_corner a n)) (range_with_len 0 a.width)
row_positions a n = made_alike (position_of a) (along (row_corner a n)) (n * a.width) 0 a.width (λ k below.
    let e : 0 + k ≡ k = omega arith in place_in_row a n k below ∙ ap (along (row_corner a n)) (sym e))

-- the positions of rows that belong to the region are those of the rows' spans
rows_positions : (region : Region) → IsBounded region → (a : Area) (n count : ℕ)
    → filter (is_inside region) (map (position_of a) (range_with_len (n * a.width) (count * a.width))) ≡ all_positions (spans_from region a n count)
rows_positions region is a n zero = let e : 0 * a.width ≡ 0 = omega arith in rw e refl
rows_positions region is a n (suc count) =
    let size : suc count * a.width ≡ a.width + count * a.width = omega arith in
    let next : n * a.width + a.width ≡ (n + 1) * a.width = omega arith in
    let here = row_positions a n in
    let spans = row_spans-positions region is a (a.least.y +ℤ pos (n / a.length)) (a.least.z +ℤ pos (n % a.length)) in
    let rest = rows_positions region is a (n + 1) count in
    rw (size, range-append (n * a.width) a.width (count * a.width), next, map-append (position_of a) (range_with_len (n * a.width) a.width) (range_with_len ((n + 1) * a.width) (count * a.width)))
    (filter-append (is_inside region) (map (position_of a) (range_with_len (n * a.width) a.width)) (map (position_of a) (range_with_len ((n + 1) * a.width) (count * a.width)))
    ∙ rw (here, spans, rest) (sym (all_positions-append (numbered_spans region a n) (spans_from region a (n + 1) count))))

-- the spans of all rows have the positions of the box that belong to the region, in index order
pub spans_left_positions : (region : Region) → IsBounded region → (a : Area) → all_positions (spans_left region a None 0) ≡ region_positions region a
spans_left_positions region is a =
    let rows : a.height * a.length - 0 ≡ a.height * a.length = omega arith in
    let all : volume a ≡ a.height * a.length * a.width = omega arith in
    let none : 0 * a.width ≡ 0 = omega arith in
    let whole : filter (is_inside region) (map (position_of a) (range_with_len 0 (a.height * a.length * a.width))) ≡ all_positions (spans_from region a 0 (a.height * a.length)) =
    subst (λ (m : ℕ). filter (is_inside region) (map (position_of a) (range_with_len m (a.height * a.length * a.width))) ≡ all_positions (spans_from region a 0 (a.height * a.length))) none (rows_positions region is a 0 (a.height * a.length)) in
    rw (rows, all) (sym whole)

-- each of them is as long as can be
rows_maximal : (region : Region) → IsBounded region → (a : Area) (n count : ℕ) → All (IsMaximal region a) (spans_from region a n count)
rows_maximal region is a n zero = All-nil (IsMaximal region a)
rows_maximal region is a n (suc count) =
    All-append (IsMaximal region a) (numbered_spans region a n) (spans_from region a (n + 1) count)
    (row_spans-maximal region is a (a.least.y +ℤ pos (n / a.length)) (a.least.z +ℤ pos (n % a.length)))
    (rows_maximal region is a (n + 1) count)

pub spans_left_maximal : (region : Region) → IsBounded region → (a : Area) → All (IsMaximal region a) (spans_left region a None 0)
spans_left_maximal region is a = rows_maximal region is a 0 (a.height * a.length - 0)

-- the rows of a world's box lie on the map
pub record IsRowOnMap (a : Area) (n : ℕ) : Type 0 where
  pub y : (a.least.y +ℤ pos (n / a.length)) <ℤ pos 2147483648
  pub z : (a.least.z +ℤ pos (n % a.length)) <ℤ pos 2147483648

pub row_on_map : (a : Area) (n : ℕ) → is_world_box a ≡ true → n < a.height * a.length → IsRowOnMap a n
row_on_map a n h below =
    let fits = limits a h in
    let place = on_map a h in
    let up : n / a.length < a.height = div_below n a.length a.height fits.length below in
    let south : n % a.length < a.length = mod_below n a.length fits.length in
    let yt = place.y.to in
    let zt = place.z.to in
    record { y = grind (arith, ints); z = grind (arith, ints) }

-- the spans of a row and of the rows behind it
pub spans_from_more : (region : Region) (a : Area) (n m rows : ℕ) → m ≡ n + 1 → n < rows → spans_from region a n (rows - n) ≡ numbered_spans region a n ++ spans_from region a m (rows - m)
spans_from_more region a n m rows e below =
    let size : rows - n ≡ suc (rows - (n + 1)) = omega arith in
    rw (size, e) refl

pub spans_from_end : (region : Region) (a : Area) (n rows : ℕ) → rows ≤ n → spans_from region a n (rows - n) ≡ []
spans_from_end region a n rows end =
    let size : rows - n ≡ 0 = omega arith in
    rw size refl
