use Rattle.std.proofs.Common.{◌+◌, arith}
use Rattle.term_text.proofs.Numerals.{value_below, value_more}
use Rattle.term_text.proofs.digits.value_of.Goals as goal

pub overflow_mul-value : goal.overflow_mul-value
overflow_mul-value c = omega (arith, value_below c.args.digits.now c.loop-digit.digit-index c.requires)

pub overflow_add-value : goal.overflow_add-value
overflow_add-value c =
    let below = value_below c.args.digits.now (c.loop-digit.digit-index + 1) c.requires in
    let more = value_more c.args.digits.now c.loop-digit.digit-index c.requires c.loop-digit-test.true in
    omega (arith, below, more)

pub loop-digit-preserved : goal.loop-digit-preserved
loop-digit-preserved c =
    let more = value_more c.args.digits.now c.loop-digit.digit-index c.requires c.loop-digit-test.true in
    omega (arith, more)
