use Rattle.chunk_sections.proofs.CellLemmas.{cell_below}
use Rattle.chunk_sections.proofs.cells.ColumnCellList.at.Goals as goal

pub position_at-requires : goal.position_at-requires
position_at-requires c = cell_below c.args.self.now c.args.i c.requires
