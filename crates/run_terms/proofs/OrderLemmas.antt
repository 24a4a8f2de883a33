-- How often a player stands in an order.
use Rattle.std.proofs.Common.{◌≡◌, ℕ, ◌+◌, ◌<◌, ◌≤◌, eqb, cond, List, [], length, take, drop, get_or, refl, sym, ap, ◌∙◌, inl, inr, arith}
use Rattle.std.specs.Prelude.{count_by, All}
use Rattle.std.specs.Option.{option_map_or}
use Rattle.std.proofs.lemmas.Bool.{eq-eqb, cases_lt}
use Rattle.std.proofs.lemmas.List.{take-append-drop}
use Rattle.std.proofs.lemmas.List.Sums.{count_by_more_yes, sum_by-append}
use Rattle.std.proofs.lemmas.Option.{slice_get_past}
use Rattle.edit_terms.specs.declared.script.Script.{Script}
use Rattle.run_terms.specs.Order.{turns_of, lines_of, IsLegalOrder, IsWholeOrder}

-- the player of a ticket stands in the order
pub turns_of-entry : (order : List ℕ) (k d : ℕ) → k < length order → 0 < turns_of (get_or order k d) order
turns_of-entry order k d within =
    let player = get_or order k d in
    let front = count_by_more_yes (λ p. eqb p player) order k d within (eq-eqb player player refl) in
    let parts : count_by (λ p. eqb p player) order ≡ count_by (λ p. eqb p player) (take (k + 1) order) + count_by (λ p. eqb p player) (drop (k + 1) order) =
    ap (count_by (λ p. eqb p player)) (sym (take-append-drop (k + 1) order)) ∙ sum_by-append (λ (p : ℕ). cond (eqb p player) 1 0) (take (k + 1) order) (drop (k + 1) order) in
    omega (arith, front, parts)

-- a player that isn't there has no commands
pub lines_of-past : (scripts : List Script) (player : ℕ) → length scripts ≤ player → lines_of scripts player ≡ []
lines_of-past scripts player past = ap (λ s. option_map_or (λ (script : Script). script.lines) s []) (slice_get_past scripts player past)

-- in a whole order each entry is a player
pub players_of_whole : (scripts : List Script) (order : List ℕ) → IsWholeOrder scripts order → All (λ p. p < length scripts) order
players_of_whole scripts order whole = λ k d within.
    elim (cases_lt (get_or order k d) (length scripts)) [
      | inl lt ↦ lt
      | inr past ↦
          let none : length (lines_of scripts (get_or order k d)) ≡ 0 = ap length (lines_of-past scripts (get_or order k d) past) in
          omega (arith, whole (get_or order k d), none, turns_of-entry order k d within)
    ]

pub legal_from_whole : (scripts : List Script) (order : List ℕ) → IsWholeOrder scripts order → IsLegalOrder scripts order
legal_from_whole scripts order whole = record { players = players_of_whole scripts order whole; within = λ player. omega (arith, whole player) }
