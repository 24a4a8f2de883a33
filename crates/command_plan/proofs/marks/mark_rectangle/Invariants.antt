use Rattle.std.proofs.Common.{◌≡◌, ℕ, ◌||◌, false, get_or}
use Rattle.command_plan.specs.Rectangles.{covers}
use Rattle.command_plan.proofs.marks.mark_rectangle.Given as goal

-- the rows passed
abbrev pub invariant-loop-row : goal.invariant-loop-row
invariant-loop-row l = (k : ℕ) → get_or l.marks k false ≡ (get_or l.initial.marks k false || covers l.grid.columns (record { x = l.r.x; z = record { from = l.r.z.from; to = l.row } }) k)
