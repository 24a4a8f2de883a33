use Rattle.plain_terms.specs.Choice.{IsUnchosen}
use Rattle.plain_terms.proofs.choice.chosen_from.Given as goal

abbrev pub invariant-loop-entry : goal.invariant-loop-entry
invariant-loop-entry l = IsUnchosen l.word l.total l.entries l.entry-index l.sum
