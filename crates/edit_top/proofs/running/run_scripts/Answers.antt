use Rattle.std.proofs.Common.{ℕ, List, sym, subst}
use Rattle.edit_terms.specs.declared.script.Script.{Script}
use Rattle.run_terms.specs.Order.{IsWholeOrder}
use Rattle.edit_top.proofs.RoundLemmas.{not_illegal}
use Rattle.edit_top.proofs.running.run_scripts.Goals as goal

pub unreachable-requires : goal.unreachable-requires
unreachable-requires c =
    let scripts = c.args.case.now.scripts in
    let whole = subst (λ (ss : List Script). IsWholeOrder ss c.in_ok-order.order.items) c.as_slice.ensures c.in_ok-order.ensures in
    not_illegal scripts c.deref.result.now c.in-Err-Illegal.field-0-0 c.in-Err-Illegal.field-0
    (subst (λ (ps : List ℕ). IsWholeOrder scripts ps) (sym c.deref.ensures.value) whole) c.in-Err-Illegal.ensures.fault c.in-Err-Illegal.field-0-is
