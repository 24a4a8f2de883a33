use Rattle.std.proofs.Common.{◌≡◌, List, OnOk, subst}
use Rattle.edit_terms.specs.declared.pos.Pos.{Pos}
use Rattle.edit_terms.specs.World.{BlockContent}
use Rattle.change_set.specs.Cells.{cell_positions}
use Rattle.change_set.specs.Part.{with_cells}
use Rattle.change_set.proofs.RunLemmas.{one_cell_fits, rising_held}
use Rattle.change_set.proofs.CellLemmas.{one_stretch_cell}
use Rattle.change_set.proofs.part_builder.PartBuilder.push.Goals as goal

pub extend-requires-clause-fits : goal.extend-requires-clause-fits
extend-requires-clause-fits c =
    one_cell_fits c.args.self.now.area c.args.at.now (rising_held c.args.self.now.area (cell_positions c.args.self.now.part.cells) c.args.at.now c.requires.rising)

pub returns-clause-added : goal.returns-clause-added
returns-clause-added c =
    let one = one_stretch_cell c.args.self.now.area c.args.at.now c.args.content.now (rising_held c.args.self.now.area (cell_positions c.args.self.now.part.cells) c.args.at.now c.requires.rising) in
    subst (λ (xs : List (Pos × BlockContent)). OnOk c.extend.result (c.extend.new.self.part ≡ with_cells c.args.self.now.part xs)) one c.extend.ensures.added
