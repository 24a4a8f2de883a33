use Rattle.std.proofs.Common.{◌≡◌, ◌++◌, List, map, drop}
use Rattle.command_syntax.specs.Words.{Mark, mark_of}
use Rattle.command_syntax.specs.Cursor.{words_with}
use Rattle.command_syntax.proofs.words.WordsRead.put_outside.Given as goal

-- the bytes that were read, and those that are left, are all of them
abbrev pub invariant-loop-b : goal.invariant-loop-b
invariant-loop-b l = (marks : List Mark) → words_with l.fn.self (map mark_of l.text ++ marks) ≡ words_with l.self (map mark_of (drop l.b-index l.text) ++ marks)
