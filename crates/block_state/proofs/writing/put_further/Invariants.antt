use Rattle.std.proofs.Common.{◌≡◌, ◌++◌, ◌∷◌, take}
use Rattle.std.specs.List.{flat_map}
use Rattle.edit_terms.specs.StateText.{comma, spelled_property}
use Rattle.block_state.proofs.writing.put_further.Given as goal

abbrev pub invariant-loop-pair : goal.invariant-loop-pair
invariant-loop-pair l = l.text.items ≡ l.initial.text.items ++ flat_map (λ p. comma ∷ spelled_property p) (take l.pair-index l.pairs)
