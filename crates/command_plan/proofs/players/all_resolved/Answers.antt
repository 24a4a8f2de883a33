use Rattle.run_terms.specs.Workload.{workload_of}
use Rattle.command_plan.proofs.PlanLemmas.{scripts_more}
use Rattle.command_plan.proofs.players.all_resolved.Goals as goal

pub loop-player-preserved : goal.loop-player-preserved
loop-player-preserved c = scripts_more (workload_of c.args.case.now) c.loop-player.player c.in_ok-resolved_of.field-0 _ _ c.loop-player.invariant c.in_ok-resolved_of.ensures c.in_ok-push.ensures.items
