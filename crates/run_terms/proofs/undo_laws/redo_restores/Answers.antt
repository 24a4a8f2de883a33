use Rattle.run_terms.proofs.UndoLemmas.{redo_restores}
use Rattle.run_terms.proofs.undo_laws.redo_restores.Goals as goal

pub returns : goal.returns
returns c = λ case order redo edit redoes. redo_restores case order edit redo redoes
