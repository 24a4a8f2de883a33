use Rattle.run_terms.specs.Workload.{workload_of}
use Rattle.command_plan.specs.Players.{AreResolvedScripts}
use Rattle.command_plan.proofs.players.all_resolved.Given as goal

-- the players passed
abbrev pub invariant-loop-player : goal.invariant-loop-player
invariant-loop-player l = AreResolvedScripts (workload_of l.case) l.player l.scripts.items
