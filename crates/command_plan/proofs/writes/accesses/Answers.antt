use Rattle.std.proofs.Common.{arith}
use Rattle.command_plan.specs.ResolvedScripts.{jobs_at}
use Rattle.command_plan.proofs.WriteLemmas.{sum_more}
use Rattle.command_plan.proofs.writes.accesses.Goals as goal

pub loop-number-preserved : goal.loop-number-preserved
loop-number-preserved c =
    let number = c.loop-number.number in
    let more = sum_more (jobs_at c.args.grid.now c.args.steps.now c.args.footprints.now) number in
    let before = c.loop-number.invariant.sum_is in
    let few = c.loop-number.invariant.small in
    let here = c.command_accesses-sum.ensures.value in
    let small = c.command_accesses-sum.ensures.small in
    record { sum_is = omega (arith, more, before, here); small = omega (arith, few, small) }
