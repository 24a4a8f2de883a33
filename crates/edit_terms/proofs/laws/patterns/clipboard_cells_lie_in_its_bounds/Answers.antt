use Rattle.edit_terms.proofs.laws.patterns.clipboard_cells_lie_in_its_bounds.Goals as goal
use Rattle.edit_terms.proofs.ClipboardLemmas.{cells_in_bounds}

pub returns : goal.returns
returns c = cells_in_bounds
