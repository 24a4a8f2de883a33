use Rattle.std.proofs.Common.{◌≡◌, ℕ, map}
use Rattle.std.specs.List.{range_with_len}
use Rattle.edit_terms.specs.Area.{position_of}
use Rattle.world_gen.specs.Ground.{ground_number}
use Rattle.world_gen.proofs.ground.cells.Given as goal

abbrev pub invariant-loop-index : goal.invariant-loop-index
invariant-loop-index l = l.cells.items ≡ map (λ (index : ℕ). ground_number (position_of l.area index)) (range_with_len 0 l.index)
