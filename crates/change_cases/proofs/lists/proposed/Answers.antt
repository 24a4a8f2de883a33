use Rattle.std.proofs.Common.{arith}
use Rattle.change_set.proofs.ListLemmas.{rises_push, follows_push}
use Rattle.change_cases.proofs.lists.proposed.Goals as goal

pub loop-index-preserved : goal.loop-index-preserved
loop-index-preserved c =
    let found = c.in-Some.ensures in
    let block = found.inverse in
    let at = c.in-Some.at in
    let a = c.args.area.now in
    let e = c.in_ok-push.ensures in
    let place = block.place in
    let here = c.loop-index.invariant.next at block.held (omega (arith, place)) in
    record {
      rising = rw e.items (rises_push a c.loop-index.cells.items _ here);
      next = λ q held above. rw e.items (follows_push a c.loop-index.cells.items _ q here block.held held (omega (arith, above, place)));
    }
