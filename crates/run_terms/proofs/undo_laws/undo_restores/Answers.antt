use Rattle.run_terms.proofs.UndoLemmas.{undo_restores}
use Rattle.run_terms.proofs.undo_laws.undo_restores.Goals as goal

pub returns : goal.returns
returns c = λ case order undo edit undoes. undo_restores case order edit undo undoes
