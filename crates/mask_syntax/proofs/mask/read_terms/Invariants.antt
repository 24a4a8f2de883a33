use Rattle.std.proofs.Common.{◌≡◌, map, length}
use Rattle.std.specs.Prelude.{filter}
use Rattle.term_text.specs.Verdict.{all_or_first}
use Rattle.mask_syntax.specs.Mask.{has_bytes, counted, judged, terms_reading, term_pieces}
use Rattle.term_text.proofs.Joined.{joined}
use Rattle.mask_syntax.proofs.Within.{AreWithin}
use Rattle.mask_syntax.proofs.mask.read_terms.Given as goal

-- the terms that were read, and the pieces that are left, are all of them
abbrev pub invariant-loop-piece : goal.invariant-loop-piece
invariant-loop-piece l = record {
  reads : joined l.terms.items (all_or_first (map judged (counted l.noise (filter has_bytes l.pieces)))) ≡ terms_reading (term_pieces l.text);
  within : AreWithin l.terms.items l.noise;
}

abbrev pub decreases-loop-piece : goal.decreases-loop-piece
decreases-loop-piece l = length l.pieces
