use Rattle.std.proofs.Common.{◌+◌, ◌<◌, arith}
use Rattle.plain_effects.proofs.StackLemmas.{first_found}
use Rattle.plain_effects.proofs.stack.first_copy.Goals as goal

pub returns-in-Some : goal.returns-in-Some
returns-in-Some c =
    let within : c.loop-number.number < c.args.count + 1 = omega arith in
    first_found c.args.from.now c.args.count c.args.to c.args.blocks.now c.args.p.now c.loop-number.number c.in-Some.content.now c.loop-number.auto.number within c.loop-number.invariant c.in-Some.ensures
