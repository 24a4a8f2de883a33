use Rattle.edit_terms.proofs.laws.states.written_form.Goals as goal
use Rattle.edit_terms.specs.StateText.{written_state}
use Rattle.edit_terms.proofs.StateTextLemmas.{written_stands, one_state}

pub returns-clause-stands : goal.returns-clause-stands
returns-clause-stands c = written_stands

pub returns-clause-alone : goal.returns-clause-alone
returns-clause-alone c = λ s t is h. one_state (written_state s) s t (written_stands s is) h
