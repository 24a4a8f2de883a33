use Rattle.std.proofs.Common.{◌≡◌, map, length}
use Rattle.std.specs.List.{enumerate_from}
use Rattle.edit_terms.specs.StateText.{comma}
use Rattle.term_text.specs.Pieces.{pieces_at}
use Rattle.term_text.specs.Verdict.{all_or_first}
use Rattle.pattern_syntax.specs.Pattern.{judged, entries_reading}
use Rattle.term_text.proofs.Joined.{joined}
use Rattle.pattern_syntax.proofs.Within.{AreWithin}
use Rattle.pattern_syntax.proofs.pattern.read_entries.Given as goal

-- the entries that were read, and the pieces that are left, are all of them
abbrev pub invariant-loop-piece : goal.invariant-loop-piece
invariant-loop-piece l = record {
  reads : joined l.entries.items (all_or_first (map judged (enumerate_from l.count l.pieces))) ≡ entries_reading (pieces_at comma 0 l.text);
  within : AreWithin l.entries.items l.count;
}

abbrev pub decreases-loop-piece : goal.decreases-loop-piece
decreases-loop-piece l = length l.pieces
