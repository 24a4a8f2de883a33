-- The two forms that the cells of a part are kept in.
use Rattle.std.specs.Prelude.{List}
use Rattle.edit_terms.specs.declared.pos.Pos.{Pos}
use Rattle.edit_terms.specs.World.{BlockContent}
use Rattle.change_set.specs.declared.part.Form.{Form}
use Rattle.change_set.specs.declared.part.Form.TheVariants.{Sorted, Runs}

-- the cells in either form
abbrev pub cells_in : Form → List (Pos × BlockContent)
cells_in (Sorted cells) = cells
cells_in (Runs runs) = runs.cells
