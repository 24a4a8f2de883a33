use Rattle.std.proofs.Common.{rules, ap, ◌∙◌, FitsSigned, arith}
use Rattle.std.proofs.lemmas.Int.{to_z-of_z}
use Rattle.std.specs.Int.{w32, cast_signed, cast_unsigned}
use Rattle.byteorder.specs.Endian.{big_number}
use Rattle.nbt_tags.specs.Reading.{numbers_in}
use Rattle.nbt_tags.proofs.Numbers.{numbers_in-more, numbers_in-all}
use Rattle.nbt_tags.proofs.arrays.ints_in.Goals as goal

pub loop-preserved : goal.loop-preserved
loop-preserved c =
    let z = c.read_i32.result in
    let fits : FitsSigned w32 z = search rules in
    let is = to_z-of_z w32 z fits ∙ c.read_i32.ensures ∙ ap (λ cells. cast_signed w32 (big_number 4 cells)) c.split_at.ensures.front in
    record {
      room = omega (arith, c.split_at.ensures.back_len, c.loop.invariant.room);
      so_far = rw (c.in_ok-push.ensures.items, c.split_at.ensures.back) (numbers_in-more w32 c.args.count c.loop.counter c.loop.numbers.items c.loop.left.now (cast_signed w32 (cast_unsigned w32 z)) (numbers_in w32 c.args.count c.args.cells.now) c.loop-test.true is c.loop.invariant.so_far);
    }

pub returns : goal.returns
returns c = c.from_vec.ensures ∙ numbers_in-all w32 c.args.count c.loop.counter c.loop.numbers.items c.loop.left.now (numbers_in w32 c.args.count c.args.cells.now) c.loop-test.false c.loop.invariant.so_far
