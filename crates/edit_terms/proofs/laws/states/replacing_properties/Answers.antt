use Rattle.edit_terms.proofs.laws.states.replacing_properties.Goals as goal
use Rattle.edit_terms.proofs.PropertyLemmas.{property_of-with, rising_with}

pub returns-clause-values : goal.returns-clause-values
returns-clause-values c = property_of-with

pub returns-clause-rising : goal.returns-clause-rising
returns-clause-rising c = rising_with
