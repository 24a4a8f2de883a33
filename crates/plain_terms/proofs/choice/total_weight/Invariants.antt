use Rattle.plain_terms.specs.Choice.{IsSumSoFar}
use Rattle.plain_terms.proofs.choice.total_weight.Given as goal

abbrev pub invariant-loop-entry : goal.invariant-loop-entry
invariant-loop-entry l = IsSumSoFar l.entries l.entry-index l.total
