use Rattle.std.proofs.Common.{arith}
use borrow.Author.Tests.{ltb-true}
use Rattle.chunk_sections.proofs.Digits.{next_digit}
use Rattle.chunk_sections.proofs.packing.number_of.Goals as goal

pub overflow_mul-number : goal.overflow_mul-number
overflow_mul-number c =
    let next = next_digit c.args.base c.args.digits.now c.loop-left.left c.loop-left.number c.requires.fit c.requires.room (omega (arith, ltb-true)) c.loop-left.invariant.within c.loop-left.invariant.value in
    omega (arith, next.below)

pub overflow_add-number : goal.overflow_add-number
overflow_add-number c =
    let next = next_digit c.args.base c.args.digits.now c.loop-left.left c.loop-left.number c.requires.fit c.requires.room (omega (arith, ltb-true)) c.loop-left.invariant.within c.loop-left.invariant.value in
    omega (arith, next.below)
