use Rattle.std.proofs.Common.{◌≡◌, length, []}
use Rattle.edit_terms.specs.StateText.{comma, cut_at, listed_behind}
use Rattle.block_state.proofs.listing.read_listed.Given as goal

abbrev pub invariant-loop-piece : goal.invariant-loop-piece
invariant-loop-piece l = listed_behind l.listed.items (cut_at comma l.rest) ≡ listed_behind [] (cut_at comma l.inside)

abbrev pub decreases-loop-piece : goal.decreases-loop-piece
decreases-loop-piece l = length l.rest
