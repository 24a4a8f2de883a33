-- What contracts see of the reader's place among the lines of a text.
use Rattle.std.specs.Prelude.{ℕ, ◌+◌, ◌≤◌, List, [], ◌∷◌, ◌++◌, length, Option, Some, None, option_map}
use Rattle.std.specs.Borrow.{Bor}
use Rattle.term_text.specs.Cursor.{room_left}
use Rattle.command_syntax.specs.declared.line.NumberedLine.{NumberedLine}
use Rattle.command_syntax.specs.declared.words.WordsRead.{WordsRead}
use Rattle.command_syntax.specs.Lines.{lines_from}
use Rattle.command_syntax.specs.Words.{Mark, Part, words_in}

-- a line's number and its bytes, without where they lie in memory
abbrev pub line_now : NumberedLine → ℕ × List ℕ
line_now l = (l.number, l.text.now)

-- the lines of what is left of a text, which goes on with the line of this number
abbrev pub lines_left : ℕ → Option (Bor (List ℕ)) → List (ℕ × List ℕ)
lines_left number None = []
lines_left number (Some text) = lines_from number text.now

-- lines have numbers from 1, and are not more than a script has
pub record IsPlaced (number : ℕ) (rest : Option (Bor (List ℕ))) : Type 0 where
  pub from_one : 1 ≤ number
  pub few : number + room_left rest ≤ 1048578

-- the part of the word that has begun, if one has
abbrev pub begun : Option (List ℕ) → List Mark
begun None = []
begun (Some word) = Part word ∷ []

-- the words that a reader has when it goes on to read these marks, behind the word that has begun
abbrev pub words_with : WordsRead → List Mark → List (List ℕ)
words_with words marks = words.done.items ++ words_in (begun (option_map (λ word. word.items) words.word) ++ marks)
