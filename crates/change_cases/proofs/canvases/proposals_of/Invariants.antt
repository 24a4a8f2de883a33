use Rattle.std.proofs.Common.{◌<◌}
use Rattle.std.specs.Prelude.{All}
use Rattle.edit_terms.specs.Area.{volume}
use Rattle.change_cases.proofs.canvases.proposals_of.Given as goal

abbrev pub invariant-loop-word : goal.invariant-loop-word
invariant-loop-word l = All (λ p. p.index < volume l.area) l.proposals
