use Rattle.std.proofs.Common.{◌≡◌, map, length}
use Rattle.std.specs.List.{enumerate_from}
use Rattle.command_syntax.specs.Lines.{significant}
use Rattle.term_text.specs.Verdict.{all_or_first}
use Rattle.command_syntax.specs.Script.{judged, commands_of}
use Rattle.term_text.proofs.Joined.{joined}
use Rattle.command_syntax.proofs.Within.{AreWithin}
use Rattle.command_syntax.proofs.script.read_commands.Given as goal

-- the commands that were read, and the lines that are left, are all of them
abbrev pub invariant-loop-line : goal.invariant-loop-line
invariant-loop-line l = record {
  reads : joined l.commands.items (all_or_first (map judged (enumerate_from l.count (significant l.lines)))) ≡ commands_of (significant l.initial.lines);
  within : AreWithin l.commands.items l.count;
}

abbrev pub decreases-loop-line : goal.decreases-loop-line
decreases-loop-line l = length (significant l.lines)
