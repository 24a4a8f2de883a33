use Rattle.edit_top.proofs.DrillCounts.{few_turns}
use Rattle.edit_top.proofs.drilling.drilled_text.Goals as goal
use Rattle.run_terms.specs.Workload.{workload_of}

pub drill_text-requires-clause-few : goal.drill_text-requires-clause-few
drill_text-requires-clause-few c = few_turns (workload_of c.in_ok-case.case) c.in_ok-outcome.outcome c.in_ok-case.ensures.within c.in_ok-outcome.ensures
