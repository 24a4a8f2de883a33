use Rattle.std.proofs.Common.{◌≡◌, ◌+◌, ◌*◌, ◌≤◌}
use Rattle.std.specs.Prelude.{sum_by}
use Rattle.std.specs.List.{range_with_len}
use Rattle.command_plan.specs.ResolvedScripts.{jobs_at}
use Rattle.command_plan.proofs.writes.accesses.Given as goal

-- the accesses of the commands passed
abbrev pub invariant-loop-number : goal.invariant-loop-number
invariant-loop-number l = record {
  sum_is : l.sum ≡ sum_by (jobs_at l.grid l.steps l.footprints) (range_with_len 0 l.number);
  small : l.sum ≤ l.number * 4294967295 + l.number * 4294967295;
}
