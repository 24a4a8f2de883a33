-- What the players of a drill changed: sums over an order's tickets, and the same sums over each player's commands.
use Rattle.std.proofs.Common.{◌≡◌, ℕ, zero, suc, ◌+◌, ◌*◌, ◌<◌, ◌≤◌, List, [], ◌∷◌, ◌++◌, length, map, take, set, get_or, refl, sym, ap, ◌∙◌, subst, inl, inr, arith}
use Rattle.std.specs.Prelude.{sum_by}
use Rattle.std.specs.List.{flat_map, range_with_len}
use Rattle.std.proofs.lemmas.Bool.{cases_eq}
use Rattle.std.proofs.lemmas.Grind.{flat_map-append}
use Rattle.std.proofs.lemmas.List.{append-nil, append_assoc, get_or-set_same, get_or-set_other, take_all}
use Rattle.std.proofs.lemmas.List.FromFn.{get_or-map-range_with_len, length-map-range_with_len, map-range_with_len_more}
use Rattle.std.proofs.lemmas.List.Sums.{sum_by_push}
use Rattle.edit_terms.specs.declared.outcome.Outcome.{Outcome}
use Rattle.edit_terms.specs.declared.outcome.Reply.{Reply}
use Rattle.edit_terms.specs.declared.outcome.Reply.TheVariants.{Accepted}
use Rattle.edit_terms.specs.declared.script.Script.{Script}
use Rattle.run_terms.specs.Limits.{IsWithinLimits}
use Rattle.run_terms.specs.Order.{turns_of, ticket_of, IsWholeOrder}
use Rattle.run_terms.specs.Reply.{reply_of, replies_of, IsOutcome}
use Rattle.run_terms.specs.Workload.{Workload}
use Rattle.edit_terms.specs.Grid.{world_of}
use Rattle.state_counts.specs.Counts.{IsCensus}
use Rattle.world_gen.specs.Drill.{drill_workload}
use Rattle.run_terms.specs.Reply.{final_world}
use Rattle.run_terms.proofs.LimitLemmas.{few_lines}
use Rattle.run_terms.proofs.Lists.{map-range_agrees}
use Rattle.run_terms.proofs.Tickets.{ticket_from-earlier, ticket_of-source_of}
use Rattle.edit_top.specs.RunText.{name_of}
use Rattle.edit_top.specs.DrillText.{changed_in, changed_by, changed_by_command, changed_in_turns, drill_text, player_text, players_changes, IsDrillText}
use Rattle.edit_top.proofs.Printing.{range-more, turns_of-more, turns_of-other}

-- ---- sums over the first numbers

pub sum_more : (f : ℕ → ℕ) (n : ℕ) → sum_by f (range_with_len 0 (n + 1)) ≡ sum_by f (range_with_len 0 n) + f n
sum_more f n = ap (sum_by f) (range-more 0 n n (omega arith)) ∙ sum_by_push f (range_with_len 0 n) n

pub sum_agrees : (f g : ℕ → ℕ) (n : ℕ) → ((k : ℕ) → k < n → f k ≡ g k) → sum_by f (range_with_len 0 n) ≡ sum_by g (range_with_len 0 n)
sum_agrees f g zero same = refl
sum_agrees f g (suc n) same =
    let next : suc n ≡ n + 1 = omega arith in
    ap (λ (m : ℕ). sum_by f (range_with_len 0 m)) next
    ∙ sum_more f n
    ∙ ap (λ (s : ℕ). s + f n) (sum_agrees f g n (λ k below. same k (omega (arith, below))))
    ∙ ap (λ (s : ℕ). sum_by g (range_with_len 0 n) + s) (same n (omega arith))
    ∙ sym (sum_more g n)
    ∙ ap (λ (m : ℕ). sum_by g (range_with_len 0 m)) (sym next)

-- ---- the counts while the tickets are passed

module _ (order : List ℕ) (replies : List Reply) (t : ℕ) (within : t < length order) where
  -- the ticket's player has one turn more, which adds what the ticket's reply tells
  own_more : changed_in_turns order replies (get_or order t 0) (turns_of (get_or order t 0) (take (t + 1) order)) ≡ changed_in_turns order replies (get_or order t 0) (turns_of (get_or order t 0) (take t order)) + changed_in (get_or replies t Accepted)
  own_more =
      let player : ℕ = get_or order t 0 in
      let turns : ℕ = turns_of player (take t order) in
      ap (changed_in_turns order replies player) (turns_of-more order t within)
      ∙ sum_more (λ (step : ℕ). changed_in (get_or replies (ticket_of order (record { player = player; step = step })) Accepted)) turns
      ∙ ap (λ (ticket : ℕ). changed_in_turns order replies player turns + changed_in (get_or replies ticket Accepted)) (ticket_of-source_of order t within)

  -- the counts after a ticket
  pub changed_step : (changed : List ℕ) (players before more : ℕ) → length changed ≡ players → get_or order t 0 < players → before ≡ get_or changed (get_or order t 0) 0 → more ≡ changed_in (get_or replies t Accepted)
      → ((player : ℕ) → player < players → get_or changed player 0 ≡ changed_in_turns order replies player (turns_of player (take t order)))
      → (player : ℕ) → player < players → get_or (set changed (get_or order t 0) (before + more)) player 0 ≡ changed_in_turns order replies player (turns_of player (take (t + 1) order))
  changed_step changed players before more long here read told counts player below =
      let acting : ℕ = get_or order t 0 in
      elim (cases_eq player acting) [
        | inl same ↦
            let inside : acting < length changed = omega (arith, long, here) in
            ap (λ (p : ℕ). get_or (set changed acting (before + more)) p 0) same
            ∙ get_or-set_same changed acting (before + more) 0 inside
            ∙ ap (λ (b : ℕ). b + more) (read ∙ counts acting here)
            ∙ ap (λ (m : ℕ). changed_in_turns order replies acting (turns_of acting (take t order)) + m) told
            ∙ sym own_more
            ∙ ap (λ (p : ℕ). changed_in_turns order replies p (turns_of p (take (t + 1) order))) (sym same)
        | inr apart ↦
            get_or-set_other changed acting player (before + more) 0 apart
            ∙ counts player below
            ∙ ap (changed_in_turns order replies player) (sym (turns_of-other order t player within apart))
      ]

  -- a turn adds less than 2^32
  pub few_step : (changed : List ℕ) (players before more : ℕ) → length changed ≡ players → get_or order t 0 < players → before ≡ get_or changed (get_or order t 0) 0 → more < 4294967296
      → ((player : ℕ) → player < players → get_or changed player 0 ≤ turns_of player (take t order) * 4294967296)
      → (player : ℕ) → player < players → get_or (set changed (get_or order t 0) (before + more)) player 0 ≤ turns_of player (take (t + 1) order) * 4294967296
  few_step changed players before more long here read small counts player below =
      let acting : ℕ = get_or order t 0 in
      elim (cases_eq player acting) [
        | inl same ↦
            let inside : acting < length changed = omega (arith, long, here) in
            let new : get_or (set changed acting (before + more)) player 0 ≡ before + more = ap (λ (p : ℕ). get_or (set changed acting (before + more)) p 0) same ∙ get_or-set_same changed acting (before + more) 0 inside in
            let turns : turns_of player (take (t + 1) order) ≡ turns_of acting (take t order) + 1 = ap (λ (p : ℕ). turns_of p (take (t + 1) order)) same ∙ turns_of-more order t within in
            omega (arith, new, turns, read, small, counts acting here)
        | inr apart ↦
            omega (arith, get_or-set_other changed acting player (before + more) 0 apart, counts player below, turns_of-other order t player within apart)
      ]

-- ---- the counts of a whole order

-- what a player's turns changed is what its commands changed
pub changed_by_whole : (case : Workload) (order : List ℕ) (player : ℕ) → IsWholeOrder case.scripts order → changed_in_turns order (replies_of case order) player (turns_of player order) ≡ changed_by case order player
changed_by_whole case order player whole =
    sum_agrees (λ (step : ℕ). changed_in (get_or (replies_of case order) (ticket step) Accepted)) (changed_by_command case order player) (turns_of player order) (λ step below. ap changed_in (told step below))
    ∙ ap (λ (n : ℕ). sum_by (changed_by_command case order player) (range_with_len 0 n)) (whole player)
  where
    ticket : ℕ → ℕ
    ticket step = ticket_of order (record { player = player; step = step })

    told : (step : ℕ) → step < turns_of player order → get_or (replies_of case order) (ticket step) Accepted ≡ reply_of case order (ticket step)
    told step below =
        let all : turns_of player (take (length order) order) ≡ turns_of player order = ap (turns_of player) (take_all (length order) order (omega arith)) in
        get_or-map-range_with_len (reply_of case order) 0 (length order) (ticket step) (ticket step) Accepted (ticket_from-earlier order player step (length order) (omega (arith, below, all))) (omega arith)

-- the names beside the counts
pub players_whole : (case : Workload) (order changed : List ℕ) → IsWholeOrder case.scripts order
    → ((player : ℕ) → player < length case.scripts → get_or changed player 0 ≡ changed_in_turns order (replies_of case order) player (turns_of player order))
    → map (λ player. (name_of case.scripts player, get_or changed player 0)) (range_with_len 0 (length case.scripts)) ≡ players_changes case order
players_whole case order changed whole counts =
    map-range_agrees (λ player. (name_of case.scripts player, get_or changed player 0)) (λ player. (name_of case.scripts player, changed_by case order player)) 0 (length case.scripts) (length case.scripts) (omega arith)
    (λ player below. ap (λ (n : ℕ). (name_of case.scripts player, n)) (counts player below ∙ changed_by_whole case order player whole))

-- the lines of one player more
pub lines_more : (text : List ℕ) (f : ℕ → List ℕ × ℕ) (n : ℕ)
    → (text ++ flat_map player_text (map f (range_with_len 0 n))) ++ player_text (f n) ≡ text ++ flat_map player_text (map f (range_with_len 0 (n + 1)))
lines_more text f n =
    append_assoc text (flat_map player_text (map f (range_with_len 0 n))) (player_text (f n))
    ∙ ap (λ (more : List ℕ). text ++ more)
    (ap (λ (line : List ℕ). flat_map player_text (map f (range_with_len 0 n)) ++ line) (sym (append-nil (player_text (f n))))
    ∙ sym (flat_map-append player_text (map f (range_with_len 0 n)) (f n ∷ []))
    ∙ ap (flat_map player_text) (sym (map-range_with_len_more f 0 n n (omega arith))))

-- no player has more than 10,000 turns
pub few_turns : (case : Workload) (outcome : Outcome) → IsWithinLimits case → IsOutcome case outcome → (player : ℕ) → turns_of player outcome.order ≤ 10000
few_turns case outcome within ran player = omega (arith, ran.whole player, few_lines case.scripts within.each player)

-- The text of what was counted over an outcome of the drill is the drill's.
pub drill_printed : (number : ℕ) (case : Workload) (outcome : Outcome) (scripts : List Script) (order : List ℕ) (replies : List Reply) (changed : List ℕ) (census : List (List ℕ × ℕ)) (text : List ℕ)
    → case ≡ drill_workload number → IsOutcome case outcome → scripts ≡ case.scripts → order ≡ outcome.order → replies ≡ outcome.replies → IsCensus (world_of outcome.world) census
    → ((player : ℕ) → player < length scripts → get_or changed player 0 ≡ changed_in_turns order replies player (turns_of player order))
    → text ≡ drill_text number (map (λ player. (name_of scripts player, get_or changed player 0)) (range_with_len 0 (length scripts))) census (length order)
    → IsDrillText number text
drill_printed number case outcome scripts order replies changed census text is ran is_scripts is_order is_replies counted counts told = record {
  order = outcome.order;
  whole = subst (λ (w : Workload). IsWholeOrder w.scripts outcome.order) is ran.whole;
  census = census;
  counts = subst (λ w. IsCensus w census) (ran.world ∙ ap (λ (w : Workload). final_world w outcome.order) is) counted;
  is = told
      ∙ ap (λ (ss : List Script). drill_text number (named ss) census (length order)) is_scripts
      ∙ ap (λ (os : List ℕ). drill_text number (named case.scripts) census (length os)) is_order
      ∙ ap (λ ps. drill_text number ps census (length outcome.order)) (players_whole case outcome.order changed ran.whole counts_here ∙ ap (λ (w : Workload). players_changes w outcome.order) is);
}
  where
    named : List Script → List (List ℕ × ℕ)
    named ss = map (λ player. (name_of ss player, get_or changed player 0)) (range_with_len 0 (length ss))

    AreCounts : List Script → List ℕ → List Reply → Type 0
    AreCounts ss os rs = (player : ℕ) → player < length ss → get_or changed player 0 ≡ changed_in_turns os rs player (turns_of player os)

    counts_here : AreCounts case.scripts outcome.order (replies_of case outcome.order)
    counts_here =
        subst (λ (ss : List Script). AreCounts ss outcome.order (replies_of case outcome.order)) is_scripts
        (subst (λ (os : List ℕ). AreCounts scripts os (replies_of case outcome.order)) is_order
        (subst (λ (rs : List Reply). AreCounts scripts order rs) (is_replies ∙ ran.replies) counts))

-- each ticket has its reply
pub replies_count : (case : Workload) (outcome : Outcome) → IsOutcome case outcome → length outcome.replies ≡ length outcome.order
replies_count case outcome ran = ap length ran.replies ∙ length-map-range_with_len (reply_of case outcome.order) 0 (length outcome.order)
