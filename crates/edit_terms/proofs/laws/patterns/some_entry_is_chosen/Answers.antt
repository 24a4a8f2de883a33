use Rattle.edit_terms.proofs.laws.patterns.some_entry_is_chosen.Goals as goal
use Rattle.std.specs.Prelude.{sum_by}
use Rattle.edit_terms.proofs.PatternLemmas.{chosen_entry-some, chosen_among, draw_word-below}

pub returns-clause-some : goal.returns-clause-some
returns-clause-some c = chosen_entry-some

pub returns-clause-among : goal.returns-clause-among
returns-clause-among c = λ word entries. chosen_among word (sum_by (λ e. e.weight) entries) 0 entries

pub returns-clause-bits : goal.returns-clause-bits
returns-clause-bits c = draw_word-below
