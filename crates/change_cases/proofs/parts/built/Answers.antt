use Rattle.std.proofs.Common.{◌≡◌, [], ◌∷◌, ◌++◌, true, sym, subst, ◌∙◌, arith}
use Rattle.change_set.specs.Changes.{rises}
use Rattle.change_set.specs.Part.{PartCells}
use Rattle.change_set.specs.Cells.{cell_positions}
use Rattle.change_set.proofs.CellLemmas.{follows_cell}
use Rattle.change_cases.proofs.parts.built.Goals as goal

pub loop-index-preserved : goal.loop-index-preserved
loop-index-preserved c =
    let found = c.in-Some.ensures in
    let block = found.inverse in
    let at = c.in-Some.at in
    let a = c.args.area.now in
    let e = c.in_ok-push.ensures in
    let place = block.place in
    let here = c.loop-index.invariant.next at block.held (omega (arith, place)) in
    record {
      area = e.area ∙ c.loop-index.invariant.area;
      next = λ q held above.
          subst (λ (part : PartCells). rises a (cell_positions part.cells ++ q ∷ []) ≡ true) (sym e.added) (follows_cell a c.loop-index.builder.part.cells at q _ here block.held held (omega (arith, above, place)));
    }
