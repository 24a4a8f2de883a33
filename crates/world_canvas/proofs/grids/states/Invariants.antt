use Rattle.std.proofs.Common.{◌≡◌, map, take}
use Rattle.edit_terms.specs.World.{BlockContent}
use Rattle.world_canvas.proofs.grids.states.Given as goal

abbrev pub invariant-loop-content : goal.invariant-loop-content
invariant-loop-content l = l.states.items ≡ map (λ (c : BlockContent). c.state) (take l.content-index l.contents)
