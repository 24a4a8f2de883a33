use Rattle.std.proofs.Common.{◌≡◌, ℕ, suc, ◌+◌, List, length, take, map, ap, subst, ◌∙◌, arith, rules}
use Rattle.std.specs.List.{range_with_len}
use Rattle.std.proofs.Math.Seq.{take-length}
use Rattle.run_terms.specs.Fold.{world_after}
use Rattle.run_terms.specs.Order.{IsLegalOrder}
use Rattle.run_terms.specs.Reply.{reply_of}
use Rattle.run_terms.specs.Workload.{workload_of}
use Rattle.serial_model.specs.Folded.{IsFolded}
use Rattle.serial_model.proofs.running.plain_run.Goals as goal

pub loop-ticket-preserved : goal.loop-ticket-preserved
loop-ticket-preserved c =
    let same : c.in-Ok.ticket ≡ c.loop-ticket.ticket = search rules in
    let next : suc c.in-Ok.ticket ≡ c.loop-ticket.ticket + 1 = omega (arith, same) in
    subst (λ (n : ℕ). IsFolded (workload_of c.args.case.now) c.args.order.now n c.next.new.self.canvas c.next.new.self.players.items c.next.new.self.replies.items) next c.in_ok-next.ensures.folded

pub returns-clause-run : goal.returns-clause-run
returns-clause-run c =
    let case = workload_of c.args.case.now in
    let order = c.args.order.now in
    let all : c.loop-ticket.ticket ≡ length order = search rules in
    let folded = c.loop-ticket.invariant in
    let ensures = c.in_ok-finish.ensures in
    record {
      order_is = ensures.order;
      legal = subst (λ (ps : List ℕ). IsLegalOrder case.scripts ps) (ap (λ (n : ℕ). take n order) all ∙ take-length order) folded.legal;
      replies = ensures.replies ∙ folded.replies ∙ ap (λ (n : ℕ). map (reply_of case order) (range_with_len 0 n)) all;
      world = ensures.world ∙ folded.world ∙ ap (world_after case order) all;
    }
