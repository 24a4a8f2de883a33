use Rattle.std.proofs.Common.{◌+◌, ◌-◌, ◌++◌, List, refl, sym, ◌∙◌, ap}
use Rattle.region_shapes.specs.declared.span.Span.{Span}
use Rattle.region_shapes.specs.SpansLeft.{spans_from}
use Rattle.region_shapes.proofs.BoxLemmas.{spans_from_more}
use Rattle.region_shapes.proofs.row_spans.first_from.Goals as goal

pub returns-in-Some : goal.returns-in-Some
returns-in-Some c =
    let row = c.loop-row.row in
    c.loop-row.invariant
    ∙ spans_from_more c.args.region.now c.args.area.now row (row + 1) c.args.rows refl c.loop-row-test.true
    ∙ ap (λ (xs : List Span). xs ++ spans_from c.args.region.now c.args.area.now (row + 1) (c.args.rows - (row + 1))) (sym c.in-Some.ensures)

pub loop-row-preserved : goal.loop-row-preserved
loop-row-preserved c =
    let row = c.loop-row.row in
    c.loop-row.invariant
    ∙ spans_from_more c.args.region.now c.args.area.now row (row + 1) c.args.rows refl c.loop-row-test.true
    ∙ ap (λ (xs : List Span). xs ++ spans_from c.args.region.now c.args.area.now (row + 1) (c.args.rows - (row + 1))) (sym c.in_default.ensures)
