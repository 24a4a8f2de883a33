use Rattle.std.proofs.Common.{◌≡◌, ◌-◌}
use Rattle.region_shapes.specs.SpansLeft.{spans_from}
use Rattle.region_shapes.proofs.row_spans.first_from.Given as goal

abbrev pub invariant-loop-row : goal.invariant-loop-row
invariant-loop-row l = spans_from l.region l.area l.fn.from (l.rows - l.fn.from) ≡ spans_from l.region l.area l.row (l.rows - l.row)
