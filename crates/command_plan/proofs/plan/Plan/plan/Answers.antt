use Rattle.std.proofs.Common.{List, sym, ap, ◌∙◌}
use Rattle.std.specs.Prelude.{sum_by}
use Rattle.run_terms.specs.Workload.{workload_of}
use Rattle.command_plan.specs.declared.planned.Planned.{Planned}
use Rattle.command_plan.specs.Plan.{jobs_of_player}
use Rattle.command_plan.proofs.PlanLemmas.{plan_jobs}
use Rattle.command_plan.proofs.plan.Plan.plan.Goals as goal

pub invariant_of-result : goal.invariant_of-result
invariant_of-result c =
    c.in_ok-jobs.ensures
    ∙ sym (plan_jobs (workload_of c.args.case.now))
    ∙ ap (λ (players : List (List Planned)). sum_by jobs_of_player players) (sym c.in_ok-players.ensures)
