use Rattle.chunk_sections.proofs.CellLemmas.{cell_below}
use Rattle.chunk_sections.proofs.cells.ColumnCellList.state.Goals as goal

pub state_at-requires : goal.state_at-requires
state_at-requires c = cell_below c.args.self.now c.args.i c.requires
