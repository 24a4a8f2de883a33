-- What is printed of a file that is no script.
use Rattle.std.specs.Prelude.{ℕ, List, [], ◌∷◌, ◌++◌, codes, decimal}
use Rattle.std.specs.List.{flat_map}
use Rattle.block_state.specs.declared.term_fault.TermFault.{TermFault}
use Rattle.block_state.specs.declared.term_fault.TermFault.TheVariants as terms
use Rattle.command_syntax.specs.declared.fault.LineFault.{LineFault}
use Rattle.command_syntax.specs.declared.fault.LineFault.TheVariants as lines
use Rattle.command_syntax.specs.declared.fault.ScriptFault.{ScriptFault}
use Rattle.command_syntax.specs.declared.fault.ScriptFault.TheVariants.{NotAscii, NoPlayer, BadPlayer, TooManyLines, Line, Memory}
use Rattle.edit_top.specs.WorldFaultText.{state_text}

-- what is wrong with a term of a word, and where it begins
abbrev pub term_place : ℕ → List ℕ → List (List ℕ)
term_place at wrong = codes "term at " ∷ decimal at ∷ codes ": " ∷ wrong ∷ []

-- why a word is no mask, pattern or state
abbrev pub term_text : TermFault → List (List ℕ)
term_text (terms.Empty at) = term_place at (codes "empty")
term_text (terms.Unknown at) = term_place at (codes "unknown")
term_text (terms.State at fault) = term_place at (state_text fault)
term_text (terms.Number at) = term_place at (codes "number")
term_text (terms.Weight at) = term_place at (codes "weight")
term_text (terms.TooManyNoise at) = term_place at (codes "too many noise terms")
term_text (terms.TooManyEntries at) = term_place at (codes "too many entries")
term_text terms.Memory = codes "memory" ∷ []

-- why a line is no command, in pieces
abbrev pub line_text : LineFault → List (List ℕ)
line_text lines.OpenQuote = codes "open quote" ∷ []
line_text lines.UnknownCommand = codes "unknown command" ∷ []
line_text lines.MissingWord = codes "missing word" ∷ []
line_text lines.ExtraWord = codes "extra word" ∷ []
line_text lines.BadNumber = codes "bad number" ∷ []
line_text lines.OutOfLimit = codes "out of limit" ∷ []
line_text lines.BadDirection = codes "bad direction" ∷ []
line_text lines.BadOption = codes "bad option" ∷ []
line_text (lines.Term fault) = term_text fault

-- why a file is no script, in pieces
abbrev pub script_text : ScriptFault → List (List ℕ)
script_text (NotAscii byte) = codes "byte " ∷ decimal byte ∷ codes " is not ascii" ∷ []
script_text NoPlayer = codes "no player" ∷ []
script_text BadPlayer = codes "bad player" ∷ []
script_text TooManyLines = codes "too many commands" ∷ []
script_text (Line number fault) = codes "line " ∷ decimal number ∷ codes ": " ∷ line_text fault
script_text Memory = codes "memory" ∷ []

-- these pieces in a line that tells a fault of the script of this name
unfoldable pub script_line : List ℕ → List (List ℕ) → List ℕ
script_line name pieces = flat_map (λ piece. piece) (codes "fault: script " ∷ name ∷ codes ": " ∷ pieces ++ codes "\n" ∷ [])
