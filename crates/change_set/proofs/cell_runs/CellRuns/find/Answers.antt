use Rattle.std.proofs.Common.{◌≡◌, ℕ, List, Some, MatchOption, ap, subst}
use Rattle.edit_terms.specs.declared.pos.Pos.{Pos}
use Rattle.edit_terms.specs.World.{BlockContent}
use Rattle.edit_terms.specs.CellList.{position_in}
use Rattle.change_set.specs.Cells.{BoxCells}
use Rattle.change_set.proofs.CellLemmas.{found_in_cells}
use Rattle.change_set.proofs.cell_runs.CellRuns.find.Goals as goal

pub returns : goal.returns
returns c =
    let found = found_in_cells c.find.result c.self.inside.runs.list c.args.p.now c.find.ensures in
    subst (λ (cells : List (Pos × BlockContent)). MatchOption c.find.result ((i : ℕ) → position_in cells i ≡ Some c.args.p.now → ⊥) (λ i. position_in cells i ≡ Some c.args.p.now))
    (ap (λ (s : BoxCells). s.cells) c.self.view_is) found
