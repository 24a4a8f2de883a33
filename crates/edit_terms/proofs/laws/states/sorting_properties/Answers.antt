use Rattle.edit_terms.proofs.laws.states.sorting_properties.Goals as goal
use Rattle.std.proofs.Common.{[], refl}
use Rattle.edit_terms.proofs.PropertyLemmas.{rising_with}
use Rattle.edit_terms.proofs.StateTextLemmas.{sorted-IsPermutation}

pub returns-clause-rising : goal.returns-clause-rising
returns-clause-rising c = λ ps. rising_with [] ps refl

pub returns-clause-moved : goal.returns-clause-moved
returns-clause-moved c = sorted-IsPermutation []
