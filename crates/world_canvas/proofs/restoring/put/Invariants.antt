use Rattle.std.proofs.Common.{◌≡◌, ℕ, ◌-◌, ◌<◌, drop, length, get_or}
use Rattle.world_canvas.specs.Restoring.{number_written}
use Rattle.world_canvas.proofs.restoring.put.Given as goal

-- the changes from the last one on are written, as far as the loop has come
abbrev pub invariant-loop-passed : goal.invariant-loop-passed
invariant-loop-passed l = (i : ℕ) → i < length l.fn.cells → get_or l.cells i 0 ≡ number_written l.side (drop (length l.changes - l.passed) l.changes) l.fn.cells i
