use Rattle.plain_terms.specs.Numbering.{IsLeft}
use Rattle.plain_terms.proofs.mask.terms_hold.Given as goal

abbrev pub invariant-loop-term : goal.invariant-loop-term
invariant-loop-term l = IsLeft l.terms l.first l.scene l.p l.term-index l.number
