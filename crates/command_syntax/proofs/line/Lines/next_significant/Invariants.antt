use Rattle.std.proofs.Common.{◌≡◌, length}
use Rattle.command_syntax.specs.Lines.{significant}
use Rattle.command_syntax.proofs.line.Lines.next_significant.Given as goal

-- the lines that were passed over are skipped
abbrev pub invariant-loop-line : goal.invariant-loop-line
invariant-loop-line l = significant l.initial.self ≡ significant l.self

abbrev pub decreases-loop-line : goal.decreases-loop-line
decreases-loop-line l = length l.self
