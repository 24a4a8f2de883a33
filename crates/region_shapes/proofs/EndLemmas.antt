-- The spans of a row can't be longer: beside each end the whole shape's row ends, the inner part begins, or the box ends.
use Rattle.std.proofs.Common.{◌≡◌, ◌<◌, Bool, true, false, cond, ◌&&◌, [], ◌∷◌, ◌++◌, ℤ, pos, ◌+ℤ◌, ◌-ℤ◌, ◌≤ℤ◌, ◌<ℤ◌, refl, sym, ◌∙◌, subst, arith}
use Rattle.std.specs.Prelude.{int_lt, not}
use Rattle.std.specs.List.{All}
use Rattle.std.proofs.lemmas.Int.{ints}
use Rattle.std.proofs.lemmas.List.Elements.{All-nil, All-cons, All-append}
use Rattle.edit_terms.specs.declared.pos.Pos.{Pos}
use Rattle.edit_terms.specs.declared.region.Region.{Region}
use Rattle.edit_terms.specs.Area.{Area, is_from}
use Rattle.region_shapes.specs.declared.interval.Interval.{Interval}
use Rattle.region_shapes.specs.Interval.{is_among, is_empty, size, common, below, above}
use Rattle.region_shapes.specs.Extents.{extent_of}
use Rattle.region_shapes.specs.Rows.{whole_row, core_row, IsBounded}
use Rattle.region_shapes.specs.Spans.{is_filled, IsMaximal}
use Rattle.region_shapes.specs.SpansLeft.{span_of, row_spans}
use Rattle.region_shapes.proofs.RowLemmas.{rows_inside, among_common}
use Rattle.region_shapes.proofs.SpanLemmas.{corner}

-- the coordinate isn't one of the row in the box without the inner part
abbrev IsOut : Interval → Interval → Area → ℤ → Type 0
IsOut row core a x = ((is_among row x && not (is_among core x)) && is_among (extent_of a).x x) ≡ false

from_width : (a : Area) (x : ℤ) → is_from a.least.x a.width x ≡ is_among (extent_of a).x x
from_width a x = grind (arith, ints)

one_of_four : (i f g h : Bool) → (i && f) ≡ false → (i && (f && g && h)) ≡ false
one_of_four i f g h e = grind (arith, e)

-- then no position with it belongs to the region and the box
not_filled : (region : Region) → IsBounded region → (a : Area) (p : Pos) → IsOut (whole_row region p.y p.z) (core_row region p.y p.z) a p.x → is_filled region a p ≡ false
not_filled region is a p out =
    rw (rows_inside region is p, from_width a p.x)
    (one_of_four (is_among (whole_row region p.y p.z) p.x && not (is_among (core_row region p.y p.z) p.x)) (is_among (extent_of a).x p.x) (is_from a.least.y a.height p.y) (is_from a.least.z a.length p.z) out)

out_of_both : (w c f : Bool) → (w && f) ≡ false → ((w && not c) && f) ≡ false
out_of_both w c f e = grind (arith, e)

out_by_core : (w c f : Bool) → c ≡ true → ((w && not c) && f) ≡ false
out_by_core w c f e = rw e (grind arith)

not_in_cut : (row core : Interval) (a : Area) (x : ℤ) → is_among (common row (extent_of a).x) x ≡ false → IsOut row core a x
not_in_cut row core a x h = out_of_both (is_among row x) (is_among core x) (is_among (extent_of a).x x) (sym (among_common row (extent_of a).x x) ∙ h)

in_core : (row core : Interval) (a : Area) (x : ℤ) → is_among core x ≡ true → IsOut row core a x
in_core row core a x h = out_by_core (is_among row x) (is_among core x) (is_among (extent_of a).x x) h

before_from : (i : Interval) (x : ℤ) → x <ℤ i.from → is_among i x ≡ false
before_from i x h = grind (arith, ints)

not_before_to : (i : Interval) (x : ℤ) → i.to ≤ℤ x → is_among i x ≡ false
not_before_to i x h = grind (arith, ints)

west_of_cut : (row core : Interval) (a : Area) (from : ℤ) → from ≡ (common row (extent_of a).x).from → IsOut row core a (from -ℤ pos 1)
west_of_cut row core a from e = not_in_cut row core a (from -ℤ pos 1) (before_from (common row (extent_of a).x) (from -ℤ pos 1) (omega (arith, ints, e)))

east_of_cut : (row core : Interval) (a : Area) (to : ℤ) → to ≡ (common row (extent_of a).x).to → IsOut row core a to
east_of_cut row core a to e = not_in_cut row core a to (not_before_to (common row (extent_of a).x) to (omega (arith, ints, e)))

first_among : (i : Interval) → is_empty i ≡ false → is_among i i.from ≡ true
first_among i some = grind (arith, ints)

last_among : (i : Interval) → is_empty i ≡ false → is_among i (i.to -ℤ pos 1) ≡ true
last_among i some = grind (arith, ints)

-- east of what lies below the inner part, by which of the two ends comes first
east_of_below : (row core : Interval) (a : Area) (b : Bool) → int_lt core.from (common row (extent_of a).x).to ≡ b → is_empty core ≡ false
    → IsOut row core a (cond b core.from (common row (extent_of a).x).to)
east_of_below row core a true first some = in_core row core a core.from (first_among core some)
east_of_below row core a false first some = east_of_cut row core a (common row (extent_of a).x).to refl

west_of_above : (row core : Interval) (a : Area) (b : Bool) → int_lt core.to (common row (extent_of a).x).from ≡ b → is_empty core ≡ false
    → IsOut row core a (cond b (common row (extent_of a).x).from core.to -ℤ pos 1)
west_of_above row core a true first some = west_of_cut row core a (common row (extent_of a).x).from refl
west_of_above row core a false first some = in_core row core a (core.to -ℤ pos 1) (last_among core some)

behind_span : (i : Interval) → is_empty i ≡ false → i.from +ℤ pos (size i) ≡ i.to
behind_span i some = grind (arith, ints)

some_span : (i : Interval) → is_empty i ≡ false → 0 < size i
some_span i some = grind (arith, ints)

-- the span of an interval beside whose ends nothing belongs to the region and the box
span_maximal : (region : Region) → IsBounded region → (a : Area) (y z : ℤ) (i : Interval) (b : Bool) → is_empty i ≡ b
    → IsOut (whole_row region y z) (core_row region y z) a (i.from -ℤ pos 1)
    → IsOut (whole_row region y z) (core_row region y z) a i.to
    → All (IsMaximal region a) (cond b [] (record { least = corner i.from y z; count = size i } ∷ []))
span_maximal region is a y z i true none west east = All-nil (IsMaximal region a)
span_maximal region is a y z i false some west east =
    All-cons (IsMaximal region a) (record { least = corner i.from y z; count = size i }) []
    (record {
      some = some_span i some;
      west = not_filled region is a (corner (i.from -ℤ pos 1) y z) west;
      east = not_filled region is a (corner (i.from +ℤ pos (size i)) y z) (subst (λ (x : ℤ). IsOut (whole_row region y z) (core_row region y z) a x) (sym (behind_span i some)) east);
    })
    (All-nil (IsMaximal region a))

spans_maximal : (region : Region) → IsBounded region → (a : Area) (y z : ℤ) (b : Bool) → is_empty (core_row region y z) ≡ b
    → All (IsMaximal region a) (cond b (span_of y z (common (whole_row region y z) (extent_of a).x)) (span_of y z (below (core_row region y z) (common (whole_row region y z) (extent_of a).x)) ++ span_of y z (above (core_row region y z) (common (whole_row region y z) (extent_of a).x))))
spans_maximal region is a y z true none =
    let row = whole_row region y z in let core = core_row region y z in let cut = common row (extent_of a).x in
    span_maximal region is a y z cut (is_empty cut) refl (west_of_cut row core a cut.from refl) (east_of_cut row core a cut.to refl)
spans_maximal region is a y z false some =
    let row = whole_row region y z in let core = core_row region y z in let cut = common row (extent_of a).x in
    All-append (IsMaximal region a) (span_of y z (below core cut)) (span_of y z (above core cut))
    (span_maximal region is a y z (below core cut) (is_empty (below core cut)) refl (west_of_cut row core a cut.from refl) (east_of_below row core a (int_lt core.from cut.to) refl some))
    (span_maximal region is a y z (above core cut) (is_empty (above core cut)) refl (west_of_above row core a (int_lt core.to cut.from) refl some) (east_of_cut row core a cut.to refl))

-- each span of a row is as long as can be
pub row_spans-maximal : (region : Region) → IsBounded region → (a : Area) (y z : ℤ) → All (IsMaximal region a) (row_spans region a y z)
row_spans-maximal region is a y z = spans_maximal region is a y z (is_empty (core_row region y z)) refl
