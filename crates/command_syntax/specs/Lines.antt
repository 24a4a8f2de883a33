-- The lines of a script's text.
use Rattle.std.specs.Prelude.{ℕ, ◌-◌, ◌==◌, Bool, true, not, if◌then◌else◌, List, length, take, map, filter, slice_index, Option, Some, None}
use Rattle.std.specs.List.{find, enumerate_from}
use Rattle.edit_terms.specs.StateText.{cut_at}
use Rattle.command_syntax.specs.Text.{feed, return, is_blank, hash}

-- a line without the carriage return at its end, if it has one
abbrev pub without_return : List ℕ → List ℕ
without_return line = if slice_index line (length line - 1) == return then take (length line - 1) line else line

-- the lines of a text, each with its number, from this number on; the text's end ends a line, as a line feed does
abbrev pub lines_from : ℕ → List ℕ → List (ℕ × List ℕ)
lines_from n text = enumerate_from n (map without_return (cut_at feed text))

-- the first byte that isn't a blank decides: a line without one is empty, and one where it is # is a comment
abbrev pub is_skipped_by : Option ℕ → Bool
is_skipped_by None = true
is_skipped_by (Some b) = b == hash

-- the line is empty or a comment
abbrev pub is_skipped : List ℕ → Bool
is_skipped line = is_skipped_by (find (λ b. not (is_blank b)) line)

-- the lines that aren't skipped
abbrev pub significant : List (ℕ × List ℕ) → List (ℕ × List ℕ)
significant lines = filter (λ line. not (is_skipped line.1)) lines

-- The lines of a text that aren't skipped, each with its number in the text, from 1.
abbrev pub lines_of : List ℕ → List (ℕ × List ℕ)
lines_of text = significant (lines_from 1 text)
