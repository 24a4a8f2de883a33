use Rattle.std.proofs.Common.{◌≡◌, map, take}
use Rattle.edit_terms.specs.World.{without_entity}
use Rattle.world_canvas.proofs.grids.bare_contents.Given as goal

abbrev pub invariant-loop-state : goal.invariant-loop-state
invariant-loop-state l = l.contents.items ≡ map without_entity (take l.state-index l.states)
