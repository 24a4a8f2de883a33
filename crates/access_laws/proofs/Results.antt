-- Whatever the whole order, commands that keep apart have the same replies and leave the same world.
--
-- The chunk of a place is accessed by some player's command, and then looks the same after all of this player's turns; or
-- no command accesses it, and then the place is as at first in each order.
use Rattle.std.proofs.Common.{◌≡◌, ℕ, zero, suc, ◌+◌, ◌<◌, ◌≤◌, Bool, true, false, ◌||◌, List, length, take, get_or, refl, sym, ap, ◌∙◌, subst, inl, inr, arith}
use Rattle.std.specs.List.{range_with_len, list_any}
use Rattle.std.proofs.lemmas.Bool.{cases_lt, eq-eqb}
use Rattle.std.proofs.lemmas.List.{take_all, ext_get_or}
use Rattle.edit_terms.specs.declared.clip.Source.{Source}
use Rattle.edit_terms.specs.Area.{Area, volume, position_of, chunk_of, is_world_box}
use Rattle.edit_terms.specs.World.{IsWorld, air_content}
use Rattle.run_terms.specs.Workload.{Workload}
use Rattle.run_terms.specs.Order.{IsWholeOrder, lines_of, turns_of, source_of, ticket_from, ticket_of, step_of_command}
use Rattle.run_terms.specs.Change.{content_of}
use Rattle.run_terms.specs.Fold.{world_after}
use Rattle.run_terms.specs.Limits.{IsWithinLimits}
use Rattle.run_terms.specs.Access.{chunks_read_by, chunks_written_by}
use Rattle.run_terms.specs.Reply.{reply_to, reply_of, final_world}
use Rattle.run_terms.proofs.FoldLemmas.{area-world_after, whole-world_after}
use Rattle.access_laws.specs.Locality.{is_among}
use Rattle.access_laws.specs.OrderFree.{accesses, IsFreeOfOrder, OrderIsFree}
use Rattle.access_laws.proofs.Writes.{or_parts}
use Rattle.access_laws.proofs.Stays.{IsTicketOf, ticket_is_of, source_of_ticket, turns_of-take, stays}
use Rattle.access_laws.proofs.SameTurns.{turns_of-mine, turns_behind, same_changes, agree_at}

-- ---- lists of consecutive numbers

-- a number of the range that passes the test
record IsFound (test : ℕ → Bool) (end : ℕ) : Type 0 where
  place : ℕ
  below : place < end
  passes : test place ≡ true

found_in_range : (test : ℕ → Bool) (a n end : ℕ) → a + n ≤ end → list_any test (range_with_len a n) ≡ true → IsFound test end
found_in_range test a zero end within h = absurd cc
found_in_range test a (suc n) end within h = by_head (found_in_range test (a + 1) n end (omega (arith, within))) (test a) refl h
  where
    by_head : (list_any test (range_with_len (a + 1) n) ≡ true → IsFound test end) → (b : Bool) → test a ≡ b → (b || list_any test (range_with_len (a + 1) n)) ≡ true → IsFound test end
    by_head later true is h = record { place = a; below = omega (arith, within); passes = is }
    by_head later false is h = later h

none_in_range : (test : ℕ → Bool) (a n k : ℕ) → a ≤ k → k < a + n → list_any test (range_with_len a n) ≡ false → test k ≡ false
none_in_range test a zero k low high none = absurd (omega (arith, low, high))
none_in_range test a (suc n) k low high none =
    let parts = or_parts (test a) (list_any test (range_with_len (a + 1) n)) none in
    elim (cases_lt a k) [
      | inl below ↦ none_in_range test (a + 1) n k (omega (arith, below)) (omega (arith, high)) parts.1
      | inr above ↦ let e : k ≡ a = omega (arith, low, above) in ap test e ∙ parts.0
    ]

-- ---- whole orders

module _ (case : Workload) (limits : IsWithinLimits case) (fits : is_world_box case.opening.area ≡ true) (free : IsFreeOfOrder case) where
  abbrev area : Area
  area = case.opening.area

  abbrev chunk_at : ℕ → ℕ
  chunk_at k = chunk_of area (position_of area k)

  -- a place in a chunk that no ticket accesses stays as at first
  untouched : (order : List ℕ) (k : ℕ) → k < volume area → ((t : ℕ) → t < length order → accesses case (source_of order t) (chunk_at k) ≡ false)
      → (t : ℕ) → t ≤ length order → content_of (world_after case order t) k ≡ content_of case.opening k
  untouched order k below none zero within = refl
  untouched order k below none (suc t) within =
      let out = or_parts (is_among (chunks_read_by case (source_of order t)) (chunk_at k)) (is_among (chunks_written_by case (source_of order t)) (chunk_at k)) (none t (omega (arith, within))) in
      stays case limits fits order t k below out.1 ∙ untouched order k below none t (omega (arith, within))

  module _ (x y : List ℕ) (whole_x : IsWholeOrder case.scripts x) (whole_y : IsWholeOrder case.scripts y) where
    -- all turns of a player
    all_turns : (p : ℕ) → turns_of p (take (length x) x) ≡ turns_of p (take (length y) y)
    all_turns p =
        ap (turns_of p) (take_all (length x) x (omega arith)) ∙ whole_x p ∙ sym (whole_y p) ∙ sym (ap (turns_of p) (take_all (length y) y (omega arith)))

    same_reply : (id : Source) → id.step < length (lines_of case.scripts id.player) → reply_of case x (ticket_of x id) ≡ reply_of case y (ticket_of y id)
    same_reply id few =
        let p = id.player in
        let n = id.step in
        let s = ticket_from x p n in
        let t = ticket_from y p n in
        let hx = ticket_is_of x p n (omega (arith, few, whole_x p)) in
        let hy = ticket_is_of y p n (omega (arith, few, whole_y p)) in
        let before = agree_at case limits fits free x y p s t (omega (arith, hx.inside)) (omega (arith, hy.inside)) (hx.number ∙ sym hy.number) in
        let after = agree_at case limits fits free x y p (suc s) (suc t) (omega (arith, hx.inside)) (omega (arith, hy.inside)) (turns_behind x p n s hx ∙ sym (turns_behind y p n t hy)) in
        let changes = same_changes case limits fits free x y p n s t hx hy before after in
        let sources = source_of_ticket x p n s hx ∙ sym (source_of_ticket y p n t hy) in
        λ i. reply_to (step_of_command case (sources i)) (length (changes i))

    -- a command of the second order has its ticket in the first
    other_ticket : (t : ℕ) → t < length y → IsTicketOf x (get_or y t 0) (turns_of (get_or y t 0) (take t y)) (ticket_from x (get_or y t 0) (turns_of (get_or y t 0) (take t y)))
    other_ticket t within =
        let q = get_or y t 0 in
        let more = turns_of-mine y q t within (eq-eqb q q refl) in
        ticket_is_of x q (turns_of q (take t y)) (omega (arith, more, turns_of-take y q (suc t), whole_x q, whole_y q))

    same_content_at : (k : ℕ) → k < volume area → content_of (final_world case x) k ≡ content_of (final_world case y) k
    same_content_at k below = by_test (list_any (λ t. accesses case (source_of x t) (chunk_at k)) (range_with_len 0 (length x))) refl
      where
        by_test : (b : Bool) → list_any (λ t. accesses case (source_of x t) (chunk_at k)) (range_with_len 0 (length x)) ≡ b → content_of (final_world case x) k ≡ content_of (final_world case y) k
        by_test true is =
            let found = found_in_range (λ t. accesses case (source_of x t) (chunk_at k)) 0 (length x) (length x) (omega arith) is in
            let t = found.place in
            let p = get_or x t 0 in
            agree_at case limits fits free x y p (length x) (length y) (omega arith) (omega arith) (all_turns p) (turns_of p (take t x)) k below found.passes
        by_test false is =
            let none_x = λ (t : ℕ) (within : t < length x). none_in_range (λ s. accesses case (source_of x s) (chunk_at k)) 0 (length x) t (omega arith) (omega (arith, within)) is in
            let none_y = λ (t : ℕ) (within : t < length y). (let h = other_ticket t within in
            subst (λ (id : Source). accesses case id (chunk_at k) ≡ false) (source_of_ticket x (get_or y t 0) (turns_of (get_or y t 0) (take t y)) (ticket_from x (get_or y t 0) (turns_of (get_or y t 0) (take t y))) h)
            (none_x (ticket_from x (get_or y t 0) (turns_of (get_or y t 0) (take t y))) h.inside)) in
            untouched x k below none_x (length x) (omega arith) ∙ sym (untouched y k below none_y (length y) (omega arith))

    same_world : IsWorld case.opening → final_world case x ≡ final_world case y
    same_world whole =
        let w = final_world case x in
        let v = final_world case y in
        let areas : w.area ≡ v.area = area-world_after case x (length x) ∙ sym (area-world_after case y (length y)) in
        let long : length w.contents ≡ volume area = whole-world_after case x (length x) whole ∙ ap volume (area-world_after case x (length x)) in
        let wide : length v.contents ≡ volume area = whole-world_after case y (length y) whole ∙ ap volume (area-world_after case y (length y)) in
        let contents : w.contents ≡ v.contents = ext_get_or air_content w.contents v.contents (long ∙ sym wide) (λ k within. same_content_at k (omega (arith, within, long))) in
        λ i. record { area = areas i; contents = contents i }

pub order_is_free : (case : Workload) → IsWithinLimits case → is_world_box case.opening.area ≡ true → IsWorld case.opening → IsFreeOfOrder case → OrderIsFree case
order_is_free case limits fits whole free = λ x y whole_x whole_y. record {
  replies = same_reply case limits fits free x y whole_x whole_y;
  world = same_world case limits fits free x y whole_x whole_y whole;
}
