use Rattle.std.proofs.Common.{◌≡◌, ℕ, ◌<◌, length, get_or, map, take}
use Rattle.world_canvas.specs.Restoring.{number_written, last_first}
use Rattle.world_canvas.proofs.restoring.put_all.Given as goal

-- the edits passed are written
abbrev pub invariant-loop-edit : goal.invariant-loop-edit
invariant-loop-edit l = (i : ℕ) → i < length l.fn.cells → get_or l.cells i 0 ≡ number_written l.side (last_first (map (λ changes. changes.items) l.kept) (take l.edit-index l.edits)) l.fn.cells i
