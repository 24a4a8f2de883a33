use Rattle.std.proofs.Common.{◌+◌, length, Option, Ok, ap, ◌∙◌}
use Rattle.std.proofs.lemmas.Result.{err_from_is_err_and}
use Rattle.nbt_tags.specs.declared.kind.Kind.{Kind}
use Rattle.nbt_tags.specs.Reading.{payload_at, items_at, whole_row_at}
use Rattle.nbt_tags.specs.Taken.{is_taken}
use Rattle.nbt_tags.proofs.Steps.{items_at-more, items_at-fails, items_at-all, row_at-more, row_at-ends, row_at-fails, row_at-fails_inside, row_at-none}
use Rattle.nbt_tags.proofs.payload.+payload.Goals as goal

pub items-returns-in_err-item : goal.items-returns-in_err-item
items-returns-in_err-item t c =
    let p = err_from_is_err_and c.from_residual-in_err-item.result c.from_residual-in_err-item.ensures.1 in
    let read = payload_at c.args.levels c.args.kind in
    rw (p.1, p.2) (items_at-fails c.in_err-item.field-0.0 read c.loop.items.items c.args.count c.loop.counter c.loop.rest.now (items_at read c.args.count c.args.bytes.now) c.loop-test.true c.in_err-item.ensures c.loop.invariant)

pub items-loop-preserved : goal.items-loop-preserved
items-loop-preserved t c =
    let read = payload_at c.args.levels c.args.kind in
    rw c.in_ok-push.ensures.items (items_at-more read c.loop.items.items c.args.count c.loop.counter c.loop.rest.now c.in_ok-item.item c.in_ok-item.after.now (items_at read c.args.count c.args.bytes.now) c.loop-test.true c.in_ok-item.ensures c.loop.invariant)

pub items-returns : goal.items-returns
items-returns t c =
    let read = payload_at c.args.levels c.args.kind in
    rw c.from_vec.ensures (items_at-all read c.loop.items.items c.args.count c.loop.counter c.loop.rest.now (items_at read c.args.count c.args.bytes.now) c.loop-test.false c.loop.invariant)

pub row-returns-in_err-next : goal.row-returns-in_err-next
row-returns-in_err-next t c =
    let p = err_from_is_err_and c.from_residual.result c.from_residual.ensures.1 in
    let read = payload_at c.args.levels in
    rw (p.1, p.2) (row_at-fails read c.args.ending c.loop.row.items (length c.args.bytes.now + 1) c.loop.counter (is_taken c.loop.names) c.loop.rest.now (whole_row_at read c.args.ending c.args.bytes.now) c.in_err-next.field-0.0 c.loop-test.true c.in_err-next.ensures c.loop.invariant)

pub row-returns-in_default : goal.row-returns-in_default
row-returns-in_default t c =
    let read = payload_at c.args.levels in
    let next = c.in_ok-next.ensures ∙ ap (λ (n : Option Kind). Ok (n, c.in_ok-next.after.now)) c.in_default.is in
    rw c.from_vec.ensures (row_at-ends read c.args.ending c.loop.row.items (length c.args.bytes.now + 1) c.loop.counter (is_taken c.loop.names) c.loop.rest.now (whole_row_at read c.args.ending c.args.bytes.now) c.in_ok-next.after.now c.loop-test.true next c.loop.invariant)

pub row-returns-in_err-first : goal.row-returns-in_err-first
row-returns-in_err-first t c =
    let p = err_from_is_err_and c.from_residual-in_err-first.result c.from_residual-in_err-first.ensures.1 in
    let read = payload_at c.args.levels in
    let next = c.in_ok-next.ensures ∙ ap (λ (n : Option Kind). Ok (n, c.in_ok-next.after.now)) c.in-Some.is in
    rw (p.1, p.2) (row_at-fails_inside read c.args.ending c.loop.row.items (length c.args.bytes.now + 1) c.loop.counter (is_taken c.loop.names) c.loop.rest.now (whole_row_at read c.args.ending c.args.bytes.now) c.in_err-first.field-0.0 c.in-Some.kind c.in_ok-next.after.now c.loop-test.true next c.in_err-first.ensures.gives c.loop.invariant)

pub row-loop-preserved : goal.row-loop-preserved
row-loop-preserved t c =
    let read = payload_at c.args.levels in
    let next = c.in_ok-next.ensures ∙ ap (λ (n : Option Kind). Ok (n, c.in_ok-next.after.now)) c.in-Some.is in
    rw (c.in_ok-push.ensures.items, c.in_ok-first.ensures.taken) (row_at-more read c.args.ending c.loop.row.items (length c.args.bytes.now + 1) c.loop.counter (is_taken c.loop.names) c.loop.rest.now (whole_row_at read c.args.ending c.args.bytes.now) c.in-Some.kind c.in_ok-next.after.now _ c.in_ok-first.after.now c.loop-test.true next c.in_ok-first.ensures.gives c.loop.invariant)

pub row-returns : goal.row-returns
row-returns t c =
    let read = payload_at c.args.levels in
    rw c.flaw_at.ensures (row_at-none read c.args.ending c.loop.row.items (length c.args.bytes.now + 1) c.loop.counter (is_taken c.loop.names) c.loop.rest.now (whole_row_at read c.args.ending c.args.bytes.now) c.loop-test.false c.loop.invariant)
