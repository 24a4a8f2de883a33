-- The spans of a region rise in a box.
--
-- The spans of the row of number n lie at the places from n times the box's width on, one row's width of them; so those
-- of a row end before those of the next one begin.
use Rattle.std.proofs.Common.{◌≡◌, ℕ, zero, suc, ◌+◌, ◌-◌, ◌*◌, ◌/◌, ◌%◌, ◌<◌, ◌≤◌, Bool, true, false, cond, List, [], ◌∷◌, ◌++◌, ℤ, pos, ◌+ℤ◌, ◌-ℤ◌, ◌≤ℤ◌, refl, ap, subst, arith}
use Rattle.std.specs.Prelude.{nat_abs, None}
use Rattle.std.specs.Cmp.Derive.{both_true}
use Rattle.std.proofs.lemmas.Nat.{div-add-mod', div_below, mod_below}
use Rattle.std.proofs.lemmas.Int.{ints}
use Rattle.edit_terms.specs.declared.region.Region.{Region}
use Rattle.edit_terms.specs.Area.{Area, is_from, holds, offset, index_of, is_world_box}
use Rattle.edit_terms.proofs.AreaLemmas.{limits}
use Rattle.region_shapes.specs.declared.interval.Interval.{Interval}
use Rattle.region_shapes.specs.declared.span.Span.{Span}
use Rattle.region_shapes.specs.Interval.{is_empty, size, common, below, above}
use Rattle.region_shapes.specs.Extents.{extent_of}
use Rattle.region_shapes.specs.Rows.{whole_row, core_row}
use Rattle.region_shapes.specs.Spans.{IsSpanFrom, RiseFrom}
use Rattle.region_shapes.specs.SpansLeft.{span_of, numbered_spans, spans_from, spans_left}
use Rattle.region_shapes.proofs.SpanLemmas.{corner}

-- spans that rise from a place on rise from a lower one on
rise_lower : (a : Area) (low least : ℕ) (spans : List Span) → low ≤ least → RiseFrom a least spans → RiseFrom a low spans
rise_lower a low least [] le h = tt
rise_lower a low least (s ∷ spans) le h = let is = h.0 in let from = is.from in
    (record { held = is.held; room = is.room; from = omega (arith, from, le) }, h.1)

-- spans rise from a place on, and end at or before another
abbrev RiseTo : Area → ℕ → ℕ → List Span → Type 0
RiseTo a least end [] = least ≤ end
RiseTo a least end (s ∷ spans) = IsSpanFrom a least s × RiseTo a (index_of a s.least + s.count) end spans

-- what rises to a place rises with what rises from there on behind it
rise_behind : (a : Area) (least end : ℕ) (spans more : List Span) → RiseTo a least end spans → RiseFrom a end more → RiseFrom a least (spans ++ more)
rise_behind a least end [] more h on = rise_lower a least end more h on
rise_behind a least end (s ∷ spans) more h on = (h.0, rise_behind a (index_of a s.least + s.count) end spans more h.1 on)

from_back : (low : ℤ) (count k : ℕ) → k < count → is_from low count (low +ℤ pos k) ≡ true
from_back low count k h = grind (arith, ints)

offset_back : (low : ℤ) (k : ℕ) → offset low (low +ℤ pos k) ≡ k
offset_back low k = let e : low +ℤ pos k -ℤ low ≡ pos k = omega (arith, ints) in ap nat_abs e

-- an interval lies in the box's width
record IsCut (a : Area) (i : Interval) : Type 0 where
  pub low : a.least.x ≤ℤ i.from
  pub high : i.to ≤ℤ (a.least.x +ℤ pos a.width)

from_held : (a : Area) (i : Interval) → IsCut a i → is_empty i ≡ false → is_from a.least.x a.width i.from ≡ true
from_held a i cut some = let low = cut.low in let high = cut.high in grind (arith, ints)

from_room : (a : Area) (i : Interval) → IsCut a i → is_empty i ≡ false → offset a.least.x i.from + size i ≤ a.width
from_room a i cut some = let low = cut.low in let high = cut.high in grind (arith, ints)

-- the span of an interval in the row of this number, by the place at which it begins
record IsRowSpan (a : Area) (n : ℕ) (i : Interval) (s : Span) : Type 0 where
  pub held : holds a s.least ≡ true
  pub room : offset a.least.x s.least.x + s.count ≤ a.width
  pub place : index_of a s.least ≡ n * a.width + offset a.least.x i.from
  pub size_is : s.count ≡ size i

row_place : (w l n x q r : ℕ) → q * l + r ≡ n → x + r * w + q * (w * l) ≡ n * w + x
row_place w l n x q r e = let flat : (q * l + r) * w ≡ n * w = ap (λ (m : ℕ). m * w) e in omega (arith, flat)

-- the height and the coordinate z of the row of this number
abbrev row_y : Area → ℕ → ℤ
row_y a n = a.least.y +ℤ pos (n / a.length)

abbrev row_z : Area → ℕ → ℤ
row_z a n = a.least.z +ℤ pos (n % a.length)

row_span : (a : Area) (n : ℕ) (i : Interval) → is_world_box a ≡ true → n < a.height * a.length → IsCut a i → is_empty i ≡ false
    → IsRowSpan a n i (record { least = corner i.from (row_y a n) (row_z a n); count = size i })
row_span a n i box below cut some =
    let fits = limits a box in
    let up : n / a.length < a.height = div_below n a.length a.height fits.length below in
    let south : n % a.length < a.length = mod_below n a.length fits.length in
    record {
      held = both_true (both_true (from_held a i cut some) (from_back a.least.y a.height (n / a.length) up)) (from_back a.least.z a.length (n % a.length) south);
      room = from_room a i cut some;
      place = rw (offset_back a.least.y (n / a.length), offset_back a.least.z (n % a.length)) (row_place a.width a.length n (offset a.least.x i.from) (n / a.length) (n % a.length) (div-add-mod' n a.length));
      size_is = refl;
    }

-- the spans that rise in the row of this number
abbrev RiseInRow : Area → ℕ → List Span → Type 0
RiseInRow a n spans = RiseTo a (n * a.width) (n * a.width + a.width) spans

-- a span that doesn't begin before its interval does
span_from : (a : Area) (n least : ℕ) (i : Interval) (s : Span) → IsRowSpan a n i s → least ≤ n * a.width + offset a.least.x i.from → IsSpanFrom a least s
span_from a n least i s is le = let place = is.place in record { held = is.held; room = is.room; from = omega (arith, place, le) }

-- and ends in its row
span_end : (a : Area) (n : ℕ) (i : Interval) (s : Span) → IsCut a i → is_empty i ≡ false → IsRowSpan a n i s → index_of a s.least + s.count ≤ n * a.width + a.width
span_end a n i s cut some is =
    let room = from_room a i cut some in
    let place = is.place in
    let size_is = is.size_is in
    omega (arith, room, place, size_is)

alone : (a : Area) (n : ℕ) (i : Interval) (b : Bool) → is_world_box a ≡ true → n < a.height * a.length → IsCut a i → is_empty i ≡ b → RiseInRow a n (span_of (row_y a n) (row_z a n) i)
alone a n i true box row cut none = rw none (omega arith)
alone a n i false box row cut some =
    let is = row_span a n i box row cut some in
    let s : Span = record { least = corner i.from (row_y a n) (row_z a n); count = size i } in
    rw some (span_from a n (n * a.width) i s is (omega arith), span_end a n i s cut some is)

-- the second of two intervals begins where the first one ends, or farther on
behind : (x : ℤ) (i j : Interval) → x ≤ℤ i.from → is_empty i ≡ false → i.to ≤ℤ j.from → offset x i.from + size i ≤ offset x j.from
behind x i j low some order = grind (arith, ints)

both : (a : Area) (n : ℕ) (i j : Interval) (b c : Bool) → is_world_box a ≡ true → n < a.height * a.length → IsCut a i → IsCut a j → i.to ≤ℤ j.from → is_empty i ≡ b → is_empty j ≡ c
    → RiseInRow a n (span_of (row_y a n) (row_z a n) i ++ span_of (row_y a n) (row_z a n) j)
both a n i j true c box row cut second order none e = rw none (alone a n j c box row second e)
both a n i j false true box row cut second order some none =
    let is = row_span a n i box row cut some in
    let s : Span = record { least = corner i.from (row_y a n) (row_z a n); count = size i } in
    rw (some, none) (span_from a n (n * a.width) i s is (omega arith), span_end a n i s cut some is)
both a n i j false false box row cut second order some more =
    let is = row_span a n i box row cut some in
    let after = row_span a n j box row second more in
    let s : Span = record { least = corner i.from (row_y a n) (row_z a n); count = size i } in
    let t : Span = record { least = corner j.from (row_y a n) (row_z a n); count = size j } in
    let place = is.place in
    let gap = behind a.least.x i j cut.low some order in
    rw (some, more) (span_from a n (n * a.width) i s is (omega arith), (span_from a n (index_of a s.least + s.count) j t after (omega (arith, place, gap)), span_end a n j t second more after))

cut_of : (a : Area) (i : Interval) → IsCut a (common i (extent_of a).x)
cut_of a i = record { low = grind (arith, ints); high = grind (arith, ints) }

below_cut : (a : Area) (part i : Interval) → IsCut a i → IsCut a (below part i)
below_cut a part i cut = let low = cut.low in let high = cut.high in record { low = low; high = grind (arith, ints) }

above_cut : (a : Area) (part i : Interval) → IsCut a i → IsCut a (above part i)
above_cut a part i cut = let low = cut.low in let high = cut.high in record { low = grind (arith, ints); high = high }

apart : (part i : Interval) → is_empty part ≡ false → (below part i).to ≤ℤ (above part i).from
apart part i h = grind (arith, ints)

-- what is left of an interval without a part of it rises
outside : (a : Area) (n : ℕ) (part i : Interval) (b : Bool) → is_world_box a ≡ true → n < a.height * a.length → IsCut a i → is_empty part ≡ b
    → RiseInRow a n (cond b (span_of (row_y a n) (row_z a n) i) (span_of (row_y a n) (row_z a n) (below part i) ++ span_of (row_y a n) (row_z a n) (above part i)))
outside a n part i true box row cut none = alone a n i (is_empty i) box row cut refl
outside a n part i false box row cut some =
    both a n (below part i) (above part i) (is_empty (below part i)) (is_empty (above part i)) box row (below_cut a part i cut) (above_cut a part i cut) (apart part i some) refl refl

row_rises : (region : Region) (a : Area) (n : ℕ) → is_world_box a ≡ true → n < a.height * a.length → RiseInRow a n (numbered_spans region a n)
row_rises region a n box row =
    let core = core_row region (row_y a n) (row_z a n) in
    let whole = whole_row region (row_y a n) (row_z a n) in
    outside a n core (common whole (extent_of a).x) (is_empty core) box row (cut_of a whole) refl

rows_rise : (region : Region) (a : Area) (n count : ℕ) → is_world_box a ≡ true → n + count ≤ a.height * a.length → RiseFrom a (n * a.width) (spans_from region a n count)
rows_rise region a n zero box room = tt
rows_rise region a n (suc count) box room =
    let next : n * a.width + a.width ≡ (n + 1) * a.width = omega arith in
    let here = subst (λ (end : ℕ). RiseTo a (n * a.width) end (numbered_spans region a n)) next (row_rises region a n box (omega arith)) in
    rise_behind a (n * a.width) ((n + 1) * a.width) (numbered_spans region a n) (spans_from region a (n + 1) count) here (rows_rise region a (n + 1) count box (omega arith))

-- the spans of all rows rise
pub spans_left_rise : (region : Region) (a : Area) → is_world_box a ≡ true → RiseFrom a 0 (spans_left region a None 0)
spans_left_rise region a box =
    let none : 0 * a.width ≡ 0 = omega arith in
    subst (λ (least : ℕ). RiseFrom a least (spans_left region a None 0)) none (rows_rise region a 0 (a.height * a.length - 0) box (omega arith))
