use Rattle.std.proofs.Common.{◌≡◌, ◌-◌, ◌≤◌, ◌++◌}
use Rattle.std.specs.List.{range_with_len}
use Rattle.plain_effects.proofs.visit.push_run.Given as goal

abbrev pub invariant-loop-place : goal.invariant-loop-place
invariant-loop-place l = record {
  appended : l.places.items ≡ l.initial.places.items ++ range_with_len l.from (l.place - l.from);
  within : l.place - l.from ≤ l.to - l.from;
}
