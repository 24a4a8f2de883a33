use Rattle.std.proofs.Common.{◌≡◌, map, take}
use Rattle.world_canvas.specs.Writing.{cell_change}
use Rattle.world_canvas.proofs.writing.cell_changes.Given as goal

abbrev pub invariant-loop-proposed : goal.invariant-loop-proposed
invariant-loop-proposed l = l.changes.items ≡ map (cell_change l.cells l.numbers) (take l.proposed-index l.proposals)
