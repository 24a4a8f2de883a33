use Rattle.std.proofs.Common.{◌≡◌, ◌++◌, length, map}
use Rattle.std.specs.List.{range_with_len}
use Rattle.std.specs.Vec.Iter.{into_iter_items}
use Rattle.command_plan.specs.PlannedScripts.{planned_at}
use Rattle.command_plan.proofs.planned.planned_steps.Given as goal

-- the commands passed are planned
abbrev pub invariant-loop-step : goal.invariant-loop-step
invariant-loop-step l = record {
  split : l.yielded ++ into_iter_items l.step-iterator ≡ l.fn.steps.items;
  number_is : l.number ≡ length l.yielded;
  planned : l.commands.items ≡ map (planned_at l.grid l.fn.steps.items l.footprints) (range_with_len 0 l.number);
}
