use Rattle.std.proofs.Common.{◌≡◌, ℕ, ◌||◌, false, get_or, take}
use Rattle.command_plan.specs.ResolvedScripts.{is_written}
use Rattle.command_plan.proofs.marks.mark_writes.Given as goal

-- the commands passed
abbrev pub invariant-loop-command : goal.invariant-loop-command
invariant-loop-command l = (k : ℕ) → get_or l.marks k false ≡ (get_or l.initial.marks k false || is_written l.grid.columns l.footprints (take l.command-index l.commands) k)
