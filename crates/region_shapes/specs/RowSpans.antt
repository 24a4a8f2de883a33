-- The spans that one row gives.
use Rattle.std.specs.Prelude.{List, [], ◌∷◌, Option, None, Some}
use Rattle.std.specs.Option.{option_to_list}
use Rattle.region_shapes.specs.declared.span.Span.{Span}
use Rattle.region_shapes.specs.declared.row_spans.RowSpans.{RowSpans}

abbrev pub listed : Option RowSpans → List Span
listed None = []
listed (Some s) = s.first ∷ option_to_list s.second
