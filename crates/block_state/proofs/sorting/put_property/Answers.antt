use Rattle.std.proofs.Common.{sym, ◌∙◌}
use Rattle.block_state.proofs.SortingLemmas.{put_last, put_there, put_before}
use Rattle.block_state.proofs.sorting.put_property.Goals as goal

pub returns-in_default : goal.returns-in_default
returns-in_default c =
    let none = rw c.deref.ensures.value at c.in_default.ensures in
    c.in_ok-push.ensures.items ∙ sym (put_last c.args.pair c.args.pairs.now.items (sym none))

pub returns-then-has_one_key : goal.returns-then-has_one_key
returns-then-has_one_key c =
    let found = rw c.deref.ensures.value at c.in-Some.ensures in
    sym (put_there c.args.pair c.index.result.now c.args.pairs.now.items c.in-Some.place (sym found) c.index.ensures (sym c.has_one_key.ensures ∙ c.if-has_one_key.true))

pub returns : goal.returns
returns c =
    let found = rw c.deref.ensures.value at c.in-Some.ensures in
    c.in_ok-insert.ensures.items ∙ sym (put_before c.args.pair c.index.result.now c.args.pairs.now.items c.in-Some.place (sym found) c.index.ensures (sym c.has_one_key.ensures ∙ c.if-has_one_key.false))
