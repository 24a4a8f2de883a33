use Rattle.std.proofs.Common.{◌≡◌, true, List, [], ◌∷◌, ◌++◌, ap, sym, ◌∙◌, subst}
use Rattle.std.proofs.lemmas.Result.{on_ok_weaker}
use Rattle.edit_terms.specs.declared.pos.Pos.{Pos}
use Rattle.change_set.specs.Changes.{rises, afters}
use Rattle.change_set.specs.Cells.{BoxCells, cell_positions, stretch_cells}
use Rattle.change_set.proofs.CellLemmas.{positions_of_cells, afters-stretch}
use Rattle.change_set.proofs.cell_runs.CellRuns.extend.Goals as goal

pub extend-requires-clause-rising : goal.extend-requires-clause-rising
extend-requires-clause-rising c =
    let rise = subst (λ (s : BoxCells). rises s.area (cell_positions s.cells ++ c.args.first.now ∷ []) ≡ true) (sym c.self.view_is) c.requires.rising in
    subst (λ (ps : List Pos). rises c.self.inside.runs.area (ps ++ c.args.first.now ∷ []) ≡ true) (positions_of_cells c.self.inside.runs.list) rise

pub returns-clause-added : goal.returns-clause-added
returns-clause-added c =
    let a = c.self.inside.runs.area in
    let list = c.self.inside.runs.list in
    let seen = ap (λ (s : BoxCells). s.cells ++ stretch_cells s.area c.args.first.now c.args.count c.args.content.now) c.self.view_is in
    on_ok_weaker c.extend.result (λ is. ap afters is ∙ afters-stretch list a c.args.first.now c.args.count c.args.content.now ∙ seen) c.extend.ensures.added
