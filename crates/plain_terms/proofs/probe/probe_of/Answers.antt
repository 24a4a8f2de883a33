use Rattle.std.proofs.Common.{◌≡◌, length, arith}
use Rattle.plain_terms.proofs.ProbeLemmas.{probe_done}
use Rattle.plain_terms.proofs.probe.probe_of.Goals as goal

pub returns : goal.returns
returns c =
    let all : c.loop-sign.sign-index ≡ length c.args.signs.now = omega (arith, c.loop-sign-test.false, c.loop-sign.auto.sign-index-end) in
    probe_done c.args.signs.now c.loop-sign.sign-index c.args.p.now c.loop-sign.probe c.loop-sign.invariant all
