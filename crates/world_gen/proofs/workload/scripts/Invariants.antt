use Rattle.std.proofs.Common.{◌≡◌, map}
use Rattle.std.specs.List.{range_with_len}
use Rattle.world_gen.specs.Drill.{drill_script}
use Rattle.world_gen.proofs.workload.scripts.Given as goal

abbrev pub invariant-loop-player : goal.invariant-loop-player
invariant-loop-player l = l.scripts.items ≡ map (drill_script l.number) (range_with_len 0 l.player)
