-- What an iterator over the spans of a region still gives: the spans of one row behind those of the other.
use Rattle.std.specs.Prelude.{ℕ, ◌-◌, ◌*◌, ◌/◌, ◌%◌, ◌++◌, if◌then◌else◌, List, [], ◌∷◌, Option, ℤ, pos, ◌+ℤ◌}
use Rattle.std.specs.List.{range_with_len, flat_map}
use Rattle.std.specs.Option.{option_to_list}
use Rattle.edit_terms.specs.declared.region.Region.{Region}
use Rattle.edit_terms.specs.Area.{Area}
use Rattle.region_shapes.specs.declared.interval.Interval.{Interval}
use Rattle.region_shapes.specs.declared.span.Span.{Span}
use Rattle.region_shapes.specs.Interval.{is_empty, size, common, below, above}
use Rattle.region_shapes.specs.Extents.{extent_of}
use Rattle.region_shapes.specs.Rows.{whole_row, core_row}

-- the span of an interval's positions in a row, where there are any
abbrev pub span_of : ℤ → ℤ → Interval → List Span
span_of y z i =
    if is_empty i then []
    else record { least = record { x = i.from; y = y; z = z }; count = size i } ∷ []

-- the spans of an interval's positions that aren't among a part's
abbrev pub spans_outside : ℤ → ℤ → Interval → Interval → List Span
spans_outside y z part i = if is_empty part then span_of y z i else span_of y z (below part i) ++ span_of y z (above part i)

-- the spans of a region's row in a box
abbrev pub row_spans : Region → Area → ℤ → ℤ → List Span
row_spans region a y z = spans_outside y z (core_row region y z) (common (whole_row region y z) (extent_of a).x)

-- the spans of the row of this number, counted as the box's rows come in index order
abbrev pub numbered_spans : Region → Area → ℕ → List Span
numbered_spans region a n = row_spans region a (a.least.y +ℤ pos (n / a.length)) (a.least.z +ℤ pos (n % a.length))

-- the spans of so many rows from this one on
abbrev pub spans_from : Region → Area → ℕ → ℕ → List Span
spans_from region a first count = flat_map (numbered_spans region a) (range_with_len first count)

-- a span that is left of the row before, and those of the rows from this one on
abbrev pub spans_left : Region → Area → Option Span → ℕ → List Span
spans_left region a pending row = option_to_list pending ++ spans_from region a row (a.height * a.length - row)
