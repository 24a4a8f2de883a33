use Rattle.std.proofs.Common.{◌≡◌, length}
use Rattle.edit_terms.specs.StateText.{cut_at}
use Rattle.command_syntax.specs.Text.{quote}
use Rattle.term_text.specs.Verdict.{verdict_map}
use Rattle.command_syntax.specs.Words.{marks_of, words_of}
use Rattle.command_syntax.specs.Cursor.{words_with}
use Rattle.command_syntax.proofs.words.read_words.Given as goal

-- the words of the line are those that were read, with what the rest has
abbrev pub invariant-loop-outside : goal.invariant-loop-outside
invariant-loop-outside l = words_of l.line ≡ verdict_map (words_with l.words) (marks_of (cut_at quote l.rest))

abbrev pub decreases-loop-outside : goal.decreases-loop-outside
decreases-loop-outside l = length l.rest
