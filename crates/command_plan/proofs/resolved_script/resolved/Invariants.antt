use Rattle.command_plan.specs.Taken.{IsTaken}
use Rattle.command_plan.proofs.resolved_script.resolved.Given as goal

-- the lines passed
abbrev pub invariant-loop-line : goal.invariant-loop-line
invariant-loop-line l = IsTaken l.area l.player l.depth l.lines l.line-index l.session l.steps.items l.footprints.items
