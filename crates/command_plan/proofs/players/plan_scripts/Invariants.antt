use Rattle.std.proofs.Common.{◌≡◌, ◌++◌, length, map}
use Rattle.std.specs.List.{range_with_len}
use Rattle.std.specs.Vec.Iter.{into_iter_items}
use Rattle.run_terms.specs.Workload.{workload_of}
use Rattle.command_plan.specs.Plan.{planned_by}
use Rattle.command_plan.proofs.players.plan_scripts.Given as goal

-- the players passed are planned
abbrev pub invariant-loop-script : goal.invariant-loop-script
invariant-loop-script l = record {
  split : l.yielded ++ into_iter_items l.script-iterator ≡ l.fn.scripts.items;
  planned : map (λ commands. commands.items) l.players.items ≡ map (planned_by (workload_of l.case)) (range_with_len 0 (length l.yielded));
}
