use Rattle.run_terms.specs.Workload.{workload_of}
use Rattle.serial_model.specs.Folded.{IsFolded}
use Rattle.serial_model.proofs.running.plain_run.Given as goal

-- the tickets passed are folded
abbrev pub invariant-loop-ticket : goal.invariant-loop-ticket
invariant-loop-ticket l = IsFolded (workload_of l.case) l.order l.ticket l.fold.canvas l.fold.players.items l.fold.replies.items
