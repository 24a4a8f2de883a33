use Rattle.std.proofs.Common.{◌≡◌, map}
use Rattle.std.specs.Arc.{arc_value}
use Rattle.std.specs.List.{filter_map, range_with_len}
use Rattle.world_canvas.specs.Placing.{entity_here}
use Rattle.world_canvas.proofs.grids.entities.Given as goal

-- the entities of the places passed
abbrev pub invariant-loop-index : goal.invariant-loop-index
invariant-loop-index l = map (λ e. (e.0, arc_value e.1)) l.list.items ≡ filter_map (entity_here l.canvas) (range_with_len 0 l.index)
