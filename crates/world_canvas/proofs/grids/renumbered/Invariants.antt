use Rattle.std.proofs.Common.{◌≡◌, map, take, get_or}
use Rattle.world_canvas.proofs.grids.renumbered.Given as goal

abbrev pub invariant-loop-cell : goal.invariant-loop-cell
invariant-loop-cell l = l.new.items ≡ map (λ n. get_or l.numbers n 0) (take l.cell-index l.cells)
