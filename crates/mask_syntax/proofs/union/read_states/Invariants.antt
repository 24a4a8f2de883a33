use Rattle.std.proofs.Common.{◌≡◌, map, length}
use Rattle.edit_terms.specs.StateText.{comma}
use Rattle.term_text.specs.Pieces.{pieces_at}
use Rattle.term_text.specs.Verdict.{all_or_first}
use Rattle.mask_syntax.specs.Leaf.{member_reading}
use Rattle.term_text.proofs.Joined.{joined}
use Rattle.mask_syntax.proofs.union.read_states.Given as goal

-- the states that were read, and the members that are left, are all of them
abbrev pub invariant-loop-member : goal.invariant-loop-member
invariant-loop-member l = joined l.states.items (all_or_first (map member_reading l.members)) ≡ all_or_first (map member_reading (pieces_at comma l.at l.text))

abbrev pub decreases-loop-member : goal.decreases-loop-member
decreases-loop-member l = length l.members
