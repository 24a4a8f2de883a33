use Rattle.std.proofs.Common.{◌≡◌, ◌+◌, ◌<◌, length, get_or, ◌∙◌, arith}
use Rattle.std.proofs.lemmas.List.{get_or_default, length-set}
use Rattle.edit_top.proofs.DrillCounts.{changed_step, few_step}
use Rattle.edit_top.proofs.Printing.{turns_of-take}
use Rattle.edit_top.proofs.drill_text.changed_by_players.Goals as goal

pub overflow_add-before : goal.overflow_add-before
overflow_add-before c =
    let p = get_or c.args.order.now c.loop-ticket.ticket 0 in
    let player : p < c.args.players = c.requires.players c.loop-ticket.ticket 0 c.loop-ticket-test.true in
    let inside : p < length c.loop-ticket.changed.items = omega (arith, player, c.loop-ticket.invariant.long) in
    let read : c.index-before.result.now ≡ get_or c.loop-ticket.changed.items p 0 = c.index-before.ensures ∙ get_or_default c.loop-ticket.changed.items p c.index-before.result.now 0 inside in
    omega (arith, read, c.loop-ticket.invariant.few p player, turns_of-take p c.loop-ticket.ticket c.args.order.now, c.requires.few p, c.changed_in.ensures.few)

pub loop-ticket-preserved : goal.loop-ticket-preserved
loop-ticket-preserved c =
    let t = c.loop-ticket.ticket in
    let p = get_or c.args.order.now t 0 in
    let changed = c.loop-ticket.changed.items in
    let player : p < c.args.players = c.requires.players t 0 c.loop-ticket-test.true in
    let inside : p < length changed = omega (arith, player, c.loop-ticket.invariant.long) in
    let read : c.index-before.result.now ≡ get_or changed p 0 = c.index-before.ensures ∙ get_or_default changed p c.index-before.result.now 0 inside in
    record {
      long = length-set changed p (c.index-before.result.now + c.changed_in.result) ∙ c.loop-ticket.invariant.long;
      counts = changed_step c.args.order.now c.args.replies.now t c.loop-ticket-test.true changed c.args.players c.index-before.result.now c.changed_in.result c.loop-ticket.invariant.long player read c.changed_in.ensures.count c.loop-ticket.invariant.counts;
      few = few_step c.args.order.now c.args.replies.now t c.loop-ticket-test.true changed c.args.players c.index-before.result.now c.changed_in.result c.loop-ticket.invariant.long player read c.changed_in.ensures.few c.loop-ticket.invariant.few;
    }
