use Rattle.plain_terms.specs.Probes.{IsProbeSoFar}
use Rattle.plain_terms.proofs.probe.probe_of.Given as goal

abbrev pub invariant-loop-sign : goal.invariant-loop-sign
invariant-loop-sign l = IsProbeSoFar l.signs l.sign-index l.p l.probe
