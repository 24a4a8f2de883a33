-- Which script the bytes of a file stand for, or its first fault.
use Rattle.std.specs.Prelude.{ℕ, nat_le, if◌then◌else◌, List, [], ◌∷◌, map, position, Option, Some, None, Result, Err}
use Rattle.std.specs.List.{enumerate_from}
use Rattle.edit_terms.specs.declared.script.Line as line
use Rattle.edit_terms.specs.declared.script.Script.{Script}
use Rattle.command_syntax.specs.declared.fault.ScriptFault.{ScriptFault}
use Rattle.command_syntax.specs.declared.fault.ScriptFault.TheVariants.{NotAscii, NoPlayer, TooManyLines, Line}
use Rattle.term_text.specs.Verdict.{verdict_map, fault_map, both, all_or_first}
use Rattle.command_syntax.specs.Lines.{lines_of}
use Rattle.command_syntax.specs.Command.{command_of}
use Rattle.command_syntax.specs.Player.{player_of}

-- the command of a line with its number
abbrev pub numbered : ℕ × List ℕ → Result line.Line ScriptFault
numbered l = fault_map (Line l.0) (verdict_map (λ command. record { number = l.0; command = command }) (command_of l.1))

-- the verdict on a line behind so many commands; there may be 10,000
abbrev pub judged : ℕ × (ℕ × List ℕ) → Result line.Line ScriptFault
judged behind = if nat_le 10000 behind.0 then Err TooManyLines else numbered behind.1

-- the commands of these lines, each judged alone, or the first fault
abbrev pub commands_of : List (ℕ × List ℕ) → Result (List line.Line) ScriptFault
commands_of lines = all_or_first (map judged (enumerate_from 0 lines))

-- the script of the lines that aren't skipped
abbrev pub script_of_lines : List (ℕ × List ℕ) → Result Script ScriptFault
script_of_lines [] = Err NoPlayer
script_of_lines (first ∷ rest) = both (λ player lines. record { player = player; lines = lines }) (player_of first.1) (commands_of rest)

-- a script of ASCII alone, or the fault of its first other byte
abbrev pub script_behind : Option ℕ → List ℕ → Result Script ScriptFault
script_behind (Some byte) bytes = Err (NotAscii byte)
script_behind None bytes = script_of_lines (lines_of bytes)

-- The script of a file's bytes: a player's line and a line for each command; or its first fault.
abbrev pub script_of_bytes : List ℕ → Result Script ScriptFault
script_of_bytes bytes = script_behind (position (λ b. nat_le 128 b) bytes) bytes
