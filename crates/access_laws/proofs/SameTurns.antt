-- Where no two players' commands access a common chunk, a player's chunks look the same in two orders after as many of
-- the player's turns.
--
-- Another player's ticket leaves them as they are. The player's own ticket is of the same command in both, whose
-- clipboard and taken changes come from the same earlier turns, so that it makes the same of chunks that look the same.
use Rattle.std.proofs.Common.{◌≡◌, ℕ, zero, suc, ◌+◌, ◌<◌, ◌≤◌, eqb, Bool, true, false, cond, List, [], ◌∷◌, length, map, take, get_or, Option, Some, None, refl, sym, ap, ◌∙◌, subst, arith}
use Rattle.std.specs.Prelude.{All, IfSome, filter_map}
use Rattle.std.specs.List.{range_with_len, cons_option}
use Rattle.std.proofs.lemmas.Bool.{eq-eqb}
use Rattle.std.proofs.lemmas.List.{take_more}
use Rattle.std.proofs.lemmas.List.Elements.{recursion_from_All}
use Rattle.std.proofs.lemmas.List.Sums.{sum_by-append, sum_by-cons}
use Rattle.edit_terms.specs.declared.clip.Clip.{Clip}
use Rattle.edit_terms.specs.declared.clip.Source.{Source}
use Rattle.edit_terms.specs.declared.step.Step.{Step}
use Rattle.edit_terms.specs.declared.step.Step.TheVariants.{Settled, Job, Refused}
use Rattle.edit_terms.specs.Area.{Area, volume, position_of, chunk_of, is_world_box}
use Rattle.edit_terms.specs.Clipboard.{clipboard_of}
use Rattle.edit_terms.specs.Frame.{frame_of_selection}
use Rattle.edit_terms.specs.Same.{same_content, content_decides}
use Rattle.edit_terms.specs.World.{World}
use Rattle.run_terms.specs.Workload.{Workload}
use Rattle.run_terms.specs.Order.{lines_of, turns_of, player_of, source_of, ticket_from, step_of_command}
use Rattle.run_terms.specs.Change.{content_of, change_at}
use Rattle.run_terms.specs.Effect.{world_after_step}
use Rattle.run_terms.specs.Fold.{clipboard_of_edit, edits_taken, edits_taken_by, task_of, taken_changes, world_after, changes_of}
use Rattle.run_terms.specs.Limits.{IsWithinLimits}
use Rattle.run_terms.specs.Access.{boxes_read_by, chunks_read_by, chunks_written_by}
use Rattle.run_terms.proofs.Lists.{map-agrees}
use Rattle.run_terms.proofs.Earlier.{clip_of, IsEarlier, step_is_of_earlier}
use Rattle.run_terms.proofs.FoldLemmas.{follows_from_earlier, area-world_after}
use Rattle.run_terms.proofs.Tickets.{ticket_from-earlier}
use Rattle.access_laws.specs.Locality.{is_among, is_in_chunks, AgreeIn, AreWorldsOf}
use Rattle.access_laws.specs.OrderFree.{is_still, accesses, IsFreeOfOrder}
use Rattle.access_laws.proofs.Chunks.{or_first, or_second}
use Rattle.access_laws.proofs.Sessions.{IsSoundClip, IsSoundStep}
use Rattle.access_laws.proofs.Stays.{IsTicketOf, ticket_is_of, source_of_ticket, turns_of-take, command_is_sound, stays}
use Rattle.access_laws.proofs.Agreement.{jobs_agree, clipboards_agree}
use Rattle.access_laws.proofs.Still.{job_still}

-- ---- turns

turns_of-more : (order : List ℕ) (player t : ℕ) → t < length order → turns_of player (take (suc t) order) ≡ turns_of player (take t order) + cond (eqb (get_or order t 0) player) 1 0
turns_of-more order player t inside =
    let next : suc t ≡ t + 1 = omega arith in
    let f : ℕ → ℕ = λ p. cond (eqb p player) 1 0 in
    let last : turns_of player (get_or order t 0 ∷ []) ≡ cond (eqb (get_or order t 0) player) 1 0 + 0 = sum_by-cons f (get_or order t 0) [] in
    let all : turns_of player (take (suc t) order) ≡ turns_of player (take t order) + turns_of player (get_or order t 0 ∷ []) =
    ap (λ (n : ℕ). turns_of player (take n order)) next ∙ ap (turns_of player) (take_more order t 0 inside) ∙ sum_by-append f (take t order) (get_or order t 0 ∷ []) in
    omega (arith, all, last)

pub turns_of-mine : (order : List ℕ) (player t : ℕ) → t < length order → eqb (get_or order t 0) player ≡ true → turns_of player (take (suc t) order) ≡ suc (turns_of player (take t order))
turns_of-mine order player t inside is = let more = turns_of-more order player t inside ∙ ap (λ (b : Bool). turns_of player (take t order) + cond b 1 0) is in omega (arith, more)

turns_of-others : (order : List ℕ) (player t : ℕ) → t < length order → eqb (get_or order t 0) player ≡ false → turns_of player (take (suc t) order) ≡ turns_of player (take t order)
turns_of-others order player t inside is = let more = turns_of-more order player t inside ∙ ap (λ (b : Bool). turns_of player (take t order) + cond b 1 0) is in omega (arith, more)

ticket_here : (order : List ℕ) (player n t : ℕ) → t < length order → eqb (get_or order t 0) player ≡ true → turns_of player (take t order) ≡ n → IsTicketOf order player n t
ticket_here order player n t inside is turns = let e : get_or order t 0 ≡ player = grind (arith) in record { player = e; number = turns; inside = inside }

-- the turns after the ticket of a command id
pub turns_behind : (order : List ℕ) (player n t : ℕ) → IsTicketOf order player n t → turns_of player (take (suc t) order) ≡ suc n
turns_behind order player n t h = turns_of-mine order player t h.inside (eq-eqb (get_or order t 0) player h.player) ∙ ap suc h.number

-- lists made place by place
same_filter_map : {X : Type 0} (f g : ℕ → Option X) (a n end : ℕ) → a + n ≤ end → ((k : ℕ) → k < end → f k ≡ g k) → filter_map f (range_with_len a n) ≡ filter_map g (range_with_len a n)
same_filter_map f g a zero end within same = refl
same_filter_map f g a (suc n) end within same =
    let here = same a (omega (arith, within)) in
    let rest = same_filter_map f g (a + 1) n end (omega (arith, within)) same in
    λ i. cons_option (here i) (rest i)

-- ---- one case

module _ (case : Workload) (limits : IsWithinLimits case) (fits : is_world_box case.opening.area ≡ true) (free : IsFreeOfOrder case) where
  abbrev area : Area
  area = case.opening.area

  abbrev chunk_at : ℕ → ℕ
  chunk_at k = chunk_of area (position_of area k)

  -- the worlds have the same contents in all chunks that the player's commands access
  abbrev AgreeFor : ℕ → World → World → Type 0
  AgreeFor p w v = (n k : ℕ) → k < volume area → accesses case (record { player = p; step = n }) (chunk_at k) ≡ true → content_of w k ≡ content_of v k

  agree_back : (p : ℕ) (w v : World) → AgreeFor p w v → AgreeFor p v w
  agree_back p w v agree = λ n k below is. sym (agree n k below is)

  agree_on : (p : ℕ) (w v u : World) → AgreeFor p w v → AgreeFor p v u → AgreeFor p w u
  agree_on p w v u first second = λ n k below is. first n k below is ∙ second n k below is

  agree_read : (p n : ℕ) (w v : World) → AgreeFor p w v → AgreeIn area (chunks_read_by case (record { player = p; step = n })) w v
  agree_read p n w v agree = λ k below is. agree n k below (or_first (is_among (chunks_read_by case (record { player = p; step = n })) (chunk_at k)) (is_among (chunks_written_by case (record { player = p; step = n })) (chunk_at k)) is)

  agree_written : (p n : ℕ) (w v : World) → AgreeFor p w v → AgreeIn area (chunks_written_by case (record { player = p; step = n })) w v
  agree_written p n w v agree = λ k below is. agree n k below (or_second (is_among (chunks_read_by case (record { player = p; step = n })) (chunk_at k)) (is_among (chunks_written_by case (record { player = p; step = n })) (chunk_at k)) is)

  -- another player's ticket leaves the player's chunks
  quiet : (order : List ℕ) (p t : ℕ) → eqb (get_or order t 0) p ≡ false → AgreeFor p (world_after case order (suc t)) (world_after case order t)
  quiet order p t other = λ n k below is. stays case limits fits order t k below (by_test n k is (is_in_chunks area (chunks_written_by case (source_of order t)) k) refl)
    where
      by_test : (n k : ℕ) → accesses case (record { player = p; step = n }) (chunk_at k) ≡ true → (b : Bool) → is_in_chunks area (chunks_written_by case (source_of order t)) k ≡ b → b ≡ false
      by_test n k is false written = refl
      by_test n k is true written =
          let own = free.apart (source_of order t) (record { player = p; step = n }) (chunk_at k) (or_second (is_among (chunks_read_by case (source_of order t)) (chunk_at k)) (is_among (chunks_written_by case (source_of order t)) (chunk_at k)) written) is in
          let same : eqb (get_or order t 0) p ≡ true = eq-eqb (get_or order t 0) p own in
          absurd cc

  are_worlds : (x y : List ℕ) (s t : ℕ) → AreWorldsOf case (world_after case x s) (world_after case y t)
  are_worlds x y s t = record { first = area-world_after case x s; second = area-world_after case y t }

  -- a command's ticket leaves what lies outside the chunks that it writes
  ticket_stays : (order : List ℕ) (p n t : ℕ) → IsTicketOf order p n t → (k : ℕ) → k < volume area → is_in_chunks area (chunks_written_by case (record { player = p; step = n })) k ≡ false
      → content_of (world_after case order (suc t)) k ≡ content_of (world_after case order t) k
  ticket_stays order p n t h k below out = stays case limits fits order t k below (subst (λ (id : Source). is_in_chunks area (chunks_written_by case id) k ≡ false) (sym (source_of_ticket order p n t h)) out)

  module _ (x y : List ℕ) (p : ℕ) where
    -- the changes of a command are the same in both orders, where its chunks look the same before and after it
    pub same_changes : (n s t : ℕ) → IsTicketOf x p n s → IsTicketOf y p n t → AgreeFor p (world_after case x s) (world_after case y t) → AgreeFor p (world_after case x (suc s)) (world_after case y (suc t))
        → changes_of case x s ≡ changes_of case y t
    same_changes n s t hx hy before after =
        ap (λ (a : Area). filter_map (change_at (world_after case x s) (world_after case x (suc s))) (range_with_len 0 (volume a))) (area-world_after case x s)
        ∙ same_filter_map (change_at (world_after case x s) (world_after case x (suc s))) (change_at (world_after case y t) (world_after case y (suc t))) 0 (volume area) (volume area) (omega arith)
        (λ k below. by_test k below (is_in_chunks area (chunks_written_by case (record { player = p; step = n })) k) refl)
        ∙ ap (λ (a : Area). filter_map (change_at (world_after case y t) (world_after case y (suc t))) (range_with_len 0 (volume a))) (sym (area-world_after case y t))
      where
        no_change : (order : List ℕ) (t k : ℕ) → content_of (world_after case order (suc t)) k ≡ content_of (world_after case order t) k → change_at (world_after case order t) (world_after case order (suc t)) k ≡ None
        no_change order t k same =
            ap (λ (b : Bool). cond b None (Some (record { index = k; before = content_of (world_after case order t) k; after = content_of (world_after case order (suc t)) k })))
            ((content_decides (content_of (world_after case order t) k) (content_of (world_after case order (suc t)) k)).1 (sym same))

        by_test : (k : ℕ) → k < volume area → (b : Bool) → is_in_chunks area (chunks_written_by case (record { player = p; step = n })) k ≡ b
            → change_at (world_after case x s) (world_after case x (suc s)) k ≡ change_at (world_after case y t) (world_after case y (suc t)) k
        by_test k below true is =
            let old = agree_written p n (world_after case x s) (world_after case y t) before k below is in
            let new = agree_written p n (world_after case x (suc s)) (world_after case y (suc t)) after k below is in
            λ i. cond (same_content (old i) (new i)) None (Some (record { index = k; before = old i; after = new i }))
        by_test k below false is = no_change x s k (ticket_stays x p n s hx k below is) ∙ sym (no_change y t k (ticket_stays y p n t hy k below is))

    -- what is known of fewer tickets
    abbrev IsKnown : ℕ → Type 0
    IsKnown bound = (s t : ℕ) → s + t < bound → s ≤ length x → t ≤ length y → turns_of p (take s x) ≡ turns_of p (take t y) → AgreeFor p (world_after case x s) (world_after case y t)

    module _ (bound : ℕ) (known : IsKnown bound) (n s t : ℕ) (few : suc s + t < bound) (hx : IsTicketOf x p n s) (hy : IsTicketOf y p n t) where
      -- the same command's tickets before
      mine_x : (m : ℕ) → m < n → IsTicketOf x p m (ticket_from x p m)
      mine_x m less = ticket_is_of x p m (omega (arith, less, hx.number, turns_of-take x p s))

      mine_y : (m : ℕ) → m < n → IsTicketOf y p m (ticket_from y p m)
      mine_y m less = ticket_is_of y p m (omega (arith, less, hy.number, turns_of-take y p t))

      before_x : (m : ℕ) → m < n → ticket_from x p m < s
      before_x m less = ticket_from-earlier x p m s (omega (arith, less, hx.number))

      before_y : (m : ℕ) → m < n → ticket_from y p m < t
      before_y m less = ticket_from-earlier y p m t (omega (arith, less, hy.number))

      earlier : (m : ℕ) → m < n → AgreeFor p (world_after case x (ticket_from x p m)) (world_after case y (ticket_from y p m))
      earlier m less =
          known (ticket_from x p m) (ticket_from y p m) (omega (arith, few, before_x m less, before_y m less)) (omega (arith, before_x m less, hx.inside)) (omega (arith, before_y m less, hy.inside))
          ((mine_x m less).number ∙ sym (mine_y m less).number)

      behind : (m : ℕ) → m < n → AgreeFor p (world_after case x (suc (ticket_from x p m))) (world_after case y (suc (ticket_from y p m)))
      behind m less =
          known (suc (ticket_from x p m)) (suc (ticket_from y p m)) (omega (arith, few, before_x m less, before_y m less)) (omega (arith, before_x m less, hx.inside)) (omega (arith, before_y m less, hy.inside))
          (turns_behind x p m (ticket_from x p m) (mine_x m less) ∙ sym (turns_behind y p m (ticket_from y p m) (mine_y m less)))

      earlier_changes : (m : ℕ) → m < n → changes_of case x (ticket_from x p m) ≡ changes_of case y (ticket_from y p m)
      earlier_changes m less = same_changes m (ticket_from x p m) (ticket_from y p m) (mine_x m less) (mine_y m less) (earlier m less) (behind m less)

      same_taken : (edits : List ℕ) → All (λ m. m < n) edits → taken_changes x (world_after case x) (player_of x s) edits ≡ taken_changes y (world_after case y) (player_of y t) edits
      same_taken edits all =
          ap (λ (q : ℕ). map (λ m. changes_of case x (ticket_from x q m)) edits) hx.player
          ∙ map-agrees (λ m. changes_of case x (ticket_from x p m)) (λ m. changes_of case y (ticket_from y p m)) (λ m. m < n) earlier_changes edits (recursion_from_All (λ m. m < n) edits all)
          ∙ ap (λ (q : ℕ). map (λ m. changes_of case y (ticket_from y q m)) edits) (sym hy.player)

      same_copied : (clip : Option Clip) → IfSome clip (IsSoundClip p case.depth (lines_of case.scripts p)) → IfSome clip (λ c. IsEarlier p n c.source)
          → clipboard_of_edit x (world_after case x) clip ≡ clipboard_of_edit y (world_after case y) clip
      same_copied None sound before = refl
      same_copied (Some c) sound before =
          let m = c.source.step in
          let own = sound.own in
          let id : record { player = p; step = m } ≡ c.source = let back = sym own in λ i. record { player = back i; step = m } in
          let kx = ticket_from x p m in
          let ky = ticket_from y p m in
          let read : AgreeIn area (chunks_read_by case c.source) (world_after case x kx) (world_after case y ky) =
          subst (λ (source : Source). AgreeIn area (chunks_read_by case source) (world_after case x kx) (world_after case y ky)) id (agree_read p m (world_after case x kx) (world_after case y ky) (earlier m before.step)) in
          let boxes = subst (λ (source : Source). boxes_read_by (step_of_command case source) ≡ frame_of_selection c.from ∷ []) id sound.read in
          ap (λ (q : ℕ). clipboard_of c (world_after case x (ticket_from x q m))) own
          ∙ clipboards_agree case c sound.fits boxes (world_after case x kx) (world_after case y ky) (are_worlds x y kx ky) read
          ∙ ap (λ (q : ℕ). clipboard_of c (world_after case y (ticket_from y q m))) (sym own)

      abbrev id : Source
      id = record { player = p; step = n }

      -- the worlds before the two tickets agree
      now : AgreeFor p (world_after case x s) (world_after case y t)
      now = known s t (omega (arith, few)) (omega (arith, hx.inside)) (omega (arith, hy.inside)) (hx.number ∙ sym hy.number)

      by_step : (step : Step) → step_of_command case id ≡ step
          → AgreeIn area (chunks_written_by case id) (world_after_step (task_of case x s (world_after case x)) step (world_after case x s)) (world_after_step (task_of case y t (world_after case y)) step (world_after case y t))
      by_step Settled is = agree_written p n (world_after case x s) (world_after case y t) now
      by_step (Refused refusal) is = agree_written p n (world_after case x s) (world_after case y t) now
      by_step (Job spec) is =
          let sound = subst (λ (step : Step). IsSoundStep p case.depth (lines_of case.scripts p) step) is (command_is_sound case limits id) in
          let before = step_is_of_earlier p case.depth (lines_of case.scripts p) n in
          let clip = subst (λ (step : Step). IfSome (clip_of step) (λ c. IsEarlier p n c.source)) is before.clip in
          let edits = subst (λ (step : Step). All (λ m. m < n) (edits_taken_by step)) is before.taken in
          let still = subst (λ (step : Step). is_still step ≡ true) is (free.still id) in
          jobs_agree case limits id case.seed s t spec is (clipboard_of_edit x (world_after case x) spec.clip) (clipboard_of_edit y (world_after case y) spec.clip) (same_copied spec.clip sound.clip clip)
          (taken_changes x (world_after case x) (player_of x s) (edits_taken spec.work)) (taken_changes y (world_after case y) (player_of y t) (edits_taken spec.work)) (same_taken (edits_taken spec.work) edits)
          (job_still case.seed s t spec still) (world_after case x s) (world_after case y t) (are_worlds x y s t)
          (agree_read p n (world_after case x s) (world_after case y t) now) (agree_written p n (world_after case x s) (world_after case y t) now)

      -- the world after a ticket by the command id
      world_by_id : (order : List ℕ) (k : ℕ) → IsTicketOf order p n k → world_after case order (suc k) ≡ world_after_step (task_of case order k (world_after case order)) (step_of_command case id) (world_after case order k)
      world_by_id order k h =
          follows_from_earlier case order k
          ∙ ap (λ (source : Source). world_after_step (task_of case order k (world_after case order)) (step_of_command case source) (world_after case order k)) (source_of_ticket order p n k h)

      -- after the player's own ticket the player's chunks still agree
      own_ticket : AgreeFor p (world_after case x (suc s)) (world_after case y (suc t))
      own_ticket = λ m k below is. by_test m k below is (is_in_chunks area (chunks_written_by case id) k) refl
        where
          by_test : (m k : ℕ) → k < volume area → accesses case (record { player = p; step = m }) (chunk_at k) ≡ true → (b : Bool) → is_in_chunks area (chunks_written_by case id) k ≡ b
              → content_of (world_after case x (suc s)) k ≡ content_of (world_after case y (suc t)) k
          by_test m k below is true written =
              ap (λ (w : World). content_of w k) (world_by_id x s hx) ∙ by_step (step_of_command case id) refl k below written ∙ sym (ap (λ (w : World). content_of w k) (world_by_id y t hy))
          by_test m k below is false written = ticket_stays x p n s hx k below written ∙ now m k below is ∙ sym (ticket_stays y p n t hy k below written)

    -- both tickets are the player's, or one is another's
    by_turns : (bound : ℕ) → IsKnown bound → (s t : ℕ) → suc s + suc t < suc bound → s < length x → t < length y → turns_of p (take (suc s) x) ≡ turns_of p (take (suc t) y)
        → (a b : Bool) → eqb (get_or x s 0) p ≡ a → eqb (get_or y t 0) p ≡ b → AgreeFor p (world_after case x (suc s)) (world_after case y (suc t))
    by_turns bound known s t few in_x in_y same false b is_x is_y =
        agree_on p (world_after case x (suc s)) (world_after case x s) (world_after case y (suc t)) (quiet x p s is_x)
        (known s (suc t) (omega (arith, few)) (omega (arith, in_x)) in_y (sym (turns_of-others x p s in_x is_x) ∙ same))
    by_turns bound known s t few in_x in_y same true false is_x is_y =
        agree_on p (world_after case x (suc s)) (world_after case y t) (world_after case y (suc t))
        (known (suc s) t (omega (arith, few)) in_x (omega (arith, in_y)) (same ∙ turns_of-others y p t in_y is_y))
        (agree_back p (world_after case y (suc t)) (world_after case y t) (quiet y p t is_y))
    by_turns bound known s t few in_x in_y same true true is_x is_y =
        let turns : turns_of p (take s x) ≡ turns_of p (take t y) = let more_x = turns_of-mine x p s in_x is_x in let more_y = turns_of-mine y p t in_y is_y in omega (arith, more_x, more_y, same) in
        own_ticket bound known (turns_of p (take s x)) s t (omega (arith, few)) (ticket_here x p (turns_of p (take s x)) s in_x is_x refl) (ticket_here y p (turns_of p (take s x)) t in_y is_y (sym turns))

    first_alone : (bound : ℕ) → IsKnown bound → (s : ℕ) → suc s < suc bound → s < length x → turns_of p (take (suc s) x) ≡ 0 → (a : Bool) → eqb (get_or x s 0) p ≡ a
        → AgreeFor p (world_after case x (suc s)) (world_after case y 0)
    first_alone bound known s few in_x none true is = let more = turns_of-mine x p s in_x is in absurd (omega (arith, more, none))
    first_alone bound known s few in_x none false is =
        agree_on p (world_after case x (suc s)) (world_after case x s) (world_after case y 0) (quiet x p s is)
        (known s 0 (omega (arith, few)) (omega (arith, in_x)) (omega arith) (sym (turns_of-others x p s in_x is) ∙ none))

    second_alone : (bound : ℕ) → IsKnown bound → (t : ℕ) → suc t < suc bound → t < length y → turns_of p (take (suc t) y) ≡ 0 → (b : Bool) → eqb (get_or y t 0) p ≡ b
        → AgreeFor p (world_after case x 0) (world_after case y (suc t))
    second_alone bound known t few in_y none true is = let more = turns_of-mine y p t in_y is in absurd (omega (arith, more, none))
    second_alone bound known t few in_y none false is =
        agree_on p (world_after case x 0) (world_after case y t) (world_after case y (suc t))
        (known 0 t (omega (arith, few)) (omega arith) (omega (arith, in_y)) (sym (sym (turns_of-others y p t in_y is) ∙ none)))
        (agree_back p (world_after case y (suc t)) (world_after case y t) (quiet y p t is))

    agree_below : (bound : ℕ) → IsKnown bound
    agree_below zero s t few in_x in_y same = absurd (omega (arith, few))
    agree_below (suc bound) zero zero few in_x in_y same = λ n k below is. refl
    agree_below (suc bound) (suc s) zero few in_x in_y same = first_alone bound (agree_below bound) s (omega (arith, few)) (omega (arith, in_x)) same (eqb (get_or x s 0) p) refl
    agree_below (suc bound) zero (suc t) few in_x in_y same = second_alone bound (agree_below bound) t (omega (arith, few)) (omega (arith, in_y)) (sym same) (eqb (get_or y t 0) p) refl
    agree_below (suc bound) (suc s) (suc t) few in_x in_y same =
        by_turns bound (agree_below bound) s t (omega (arith, few)) (omega (arith, in_x)) (omega (arith, in_y)) same (eqb (get_or x s 0) p) (eqb (get_or y t 0) p) refl refl

    -- after as many of the player's turns the player's chunks look the same
    pub agree_at : (s t : ℕ) → s ≤ length x → t ≤ length y → turns_of p (take s x) ≡ turns_of p (take t y) → AgreeFor p (world_after case x s) (world_after case y t)
    agree_at s t = agree_below (suc (s + t)) s t (omega arith)
