-- Two outcomes of a case whose commands keep apart differ at most in their orders.
use Rattle.std.proofs.Common.{◌≡◌, ℕ, ◌<◌, true, List, length, Some, sym, ap, ◌∙◌, arith}
use Rattle.std.specs.Prelude.{slice_get}
use Rattle.std.proofs.lemmas.List.FromFn.{get_or-map-range_with_len, length-map-range_with_len}
use Rattle.std.proofs.lemmas.Option.{slice_get-get_or}
use Rattle.edit_terms.specs.declared.outcome.Reply.{Reply}
use Rattle.edit_terms.specs.declared.outcome.Outcome.{Outcome}
use Rattle.edit_terms.specs.Area.{is_world_box}
use Rattle.edit_terms.specs.World.{IsWorld}
use Rattle.run_terms.specs.Workload.{Workload}
use Rattle.run_terms.specs.Order.{ticket_of}
use Rattle.run_terms.specs.Limits.{IsWithinLimits}
use Rattle.run_terms.specs.Reply.{reply_of, replies_of, IsOutcome}
use Rattle.access_laws.specs.OrderFree.{IsFreeOfOrder, DifferInOrderAlone}
use Rattle.access_laws.proofs.Stays.{ticket_is_of}
use Rattle.access_laws.proofs.Results.{order_is_free}

-- the reply to a ticket in the list of all replies
listed_reply : (case : Workload) (order : List ℕ) (t : ℕ) → t < length order → slice_get (replies_of case order) t ≡ Some (reply_of case order t)
listed_reply case order t within =
    slice_get-get_or (replies_of case order) t (reply_of case order t) (omega (arith, within, length-map-range_with_len (reply_of case order) 0 (length order)))
    ∙ ap Some (get_or-map-range_with_len (reply_of case order) 0 (length order) t t (reply_of case order t) within (omega arith))

pub outcomes_differ_in_order_alone : (case : Workload) → IsWithinLimits case → is_world_box case.opening.area ≡ true → IsWorld case.opening → IsFreeOfOrder case
    → (a b : Outcome) → IsOutcome case a → IsOutcome case b → DifferInOrderAlone case a b
outcomes_differ_in_order_alone case limits fits whole free a b of_a of_b =
    let same = order_is_free case limits fits whole free a.order b.order of_a.whole of_b.whole in
    record {
      replies = λ id few.
          (let in_a = (ticket_is_of a.order id.player id.step (omega (arith, few, of_a.whole id.player))).inside in
          let in_b = (ticket_is_of b.order id.player id.step (omega (arith, few, of_b.whole id.player))).inside in
          ap (λ (replies : List Reply). slice_get replies (ticket_of a.order id)) of_a.replies
          ∙ listed_reply case a.order (ticket_of a.order id) in_a ∙ ap Some (same.replies id few) ∙ sym (listed_reply case b.order (ticket_of b.order id) in_b)
          ∙ sym (ap (λ (replies : List Reply). slice_get replies (ticket_of b.order id)) of_b.replies));
      world = of_a.world ∙ same.world ∙ sym of_b.world;
    }
