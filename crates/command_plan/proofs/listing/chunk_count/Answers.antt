use Rattle.std.proofs.Common.{arith}
use Rattle.command_plan.proofs.ListingLemmas.{chunk_count}
use Rattle.command_plan.proofs.listing.chunk_count.Goals as goal

pub overflow_sub-result : goal.overflow_sub-result
overflow_sub-result c =
    let e = chunk_count c.args.grid.now c.args.s.now c.common.result (c.common.ensures.exact c.args.grid.now.columns) in
    omega (arith, e, c.rectangle_size-both.ensures.value, c.rectangle_size.ensures.value, c.rectangle_size-2.ensures.value)

pub returns : goal.returns
returns c =
    let e = chunk_count c.args.grid.now c.args.s.now c.common.result (c.common.ensures.exact c.args.grid.now.columns) in
    omega (arith, e, c.rectangle_size-both.ensures.value, c.rectangle_size.ensures.value, c.rectangle_size-2.ensures.value)
