use Rattle.std.proofs.Common.{◌≡◌, vec_len}
use Rattle.edit_terms.specs.StateText.{with_properties}
use Rattle.block_state.proofs.sorting.with_properties.Given as goal

abbrev pub invariant-loop-pair : goal.invariant-loop-pair
invariant-loop-pair l = with_properties l.all.items l.left.items ≡ with_properties l.fn.old.items l.fn.listed.items

abbrev pub decreases-loop-pair : goal.decreases-loop-pair
decreases-loop-pair l = vec_len l.left
