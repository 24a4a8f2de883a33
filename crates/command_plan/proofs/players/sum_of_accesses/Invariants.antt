use Rattle.std.proofs.Common.{◌≡◌, ◌*◌, ◌≤◌}
use Rattle.std.specs.Prelude.{sum_by}
use Rattle.std.specs.List.{range_with_len}
use Rattle.run_terms.specs.Access.{accesses_of_player}
use Rattle.run_terms.specs.Workload.{workload_of}
use Rattle.command_plan.proofs.players.sum_of_accesses.Given as goal

-- the players passed
abbrev pub invariant-loop-script : goal.invariant-loop-script
invariant-loop-script l = record {
  sum_is : l.sum ≡ sum_by (accesses_of_player (workload_of l.case)) (range_with_len 0 l.script-index);
  small : l.sum ≤ l.script-index * 85899345900000;
}
