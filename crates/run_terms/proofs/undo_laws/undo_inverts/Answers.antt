use Rattle.run_terms.proofs.UndoLemmas.{undo_inverts}
use Rattle.run_terms.proofs.undo_laws.undo_inverts.Goals as goal

pub returns : goal.returns
returns c = λ case order undo edit undoes. undo_inverts case order undo edit undoes
