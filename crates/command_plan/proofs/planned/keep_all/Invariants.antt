use Rattle.std.proofs.Common.{◌≡◌, ℕ, ◌||◌, false, get_or, take}
use Rattle.command_plan.specs.ResolvedScripts.{is_taken}
use Rattle.command_plan.proofs.planned.keep_all.Given as goal

-- the commands passed
abbrev pub invariant-loop-step : goal.invariant-loop-step
invariant-loop-step l = (k : ℕ) → get_or l.keeps k false ≡ (get_or l.initial.keeps k false || is_taken (take l.step-index l.steps) k)
