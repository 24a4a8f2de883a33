use Rattle.edit_terms.proofs.laws.patterns.the_only_entry_is_chosen.Goals as goal
use Rattle.edit_terms.proofs.PatternLemmas.{chosen_entry-one, pattern_value-one}

pub returns-clause-chosen : goal.returns-clause-chosen
returns-clause-chosen c = chosen_entry-one

pub returns-clause-value : goal.returns-clause-value
returns-clause-value c = pattern_value-one
