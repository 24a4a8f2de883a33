-- A legal order with one more entry, and how long legal orders are.
use Rattle.std.proofs.Common.{◌≡◌, ◌≢◌, ℕ, zero, suc, ◌+◌, ◌*◌, ◌<◌, ◌≤◌, eqb, ltb, cond, Bool, List, [], ◌∷◌, ◌++◌, length, refl, ap, sym, ◌∙◌, subst, inl, inr, arith}
use Rattle.std.specs.Prelude.{All}
use Rattle.std.specs.Option.{option_map_or}
use Rattle.std.proofs.lemmas.Bool.{eq-eqb, ne_eqb, cases_lt}
use Rattle.std.proofs.lemmas.Bool.Decides.{nat_tests}
use Rattle.std.proofs.lemmas.List.Elements.{All-append}
use Rattle.std.proofs.lemmas.List.Sums.{sum_by-append, sum_by-cons}
use Rattle.std.proofs.lemmas.Option.{slice_get_past, slice_get_cases}
use mathlib.Core.Logic.{dite}
use native.Mathlib.Decide.{ℕ_discrete}
use Rattle.edit_terms.specs.declared.script.Case.{Case}
use Rattle.edit_terms.specs.declared.script.Script.{Script}
use Rattle.run_terms.specs.Limits.{IsWithinLimits}
use Rattle.run_terms.specs.Workload.{workload_of}
use Rattle.run_terms.specs.Order.{turns_of, lines_of, IsLegalOrder}
use Rattle.ticket_log.specs.Orders.{IsLoggable}

-- an entry counts for its player alone
pub turns_of-more : (player p : ℕ) (order : List ℕ) → turns_of player (order ++ p ∷ []) ≡ turns_of player order + cond (eqb p player) 1 0
turns_of-more player p order =
    let parts = sum_by-append (λ (q : ℕ). cond (eqb q player) 1 0) order (p ∷ []) in
    let last = sum_by-cons (λ (q : ℕ). cond (eqb q player) 1 0) p [] in
    parts ∙ ap (λ (n : ℕ). turns_of player order + n) (last ∙ omega arith)

pub turns_of-same : (player : ℕ) (order : List ℕ) → turns_of player (order ++ player ∷ []) ≡ turns_of player order + 1
turns_of-same player order = turns_of-more player player order ∙ ap (λ (b : Bool). turns_of player order + cond b 1 0) (eq-eqb player player refl)

pub turns_of-other : (player p : ℕ) (order : List ℕ) → p ≢ player → turns_of player (order ++ p ∷ []) ≡ turns_of player order
turns_of-other player p order differ =
    turns_of-more player p order ∙ (ap (λ (b : Bool). turns_of player order + cond b 1 0) (ne_eqb p player differ) ∙ omega arith)

-- who has commands left is a player
pub player_there : (scripts : List Script) (player n : ℕ) → n < length (lines_of scripts player) → player < length scripts
player_there scripts player n left = elim (cases_lt player (length scripts)) [
  | inl there ↦ there
  | inr past ↦
      let none : length (lines_of scripts player) ≡ 0 = ap (λ s. length (option_map_or (λ (script : Script). script.lines) s [])) (slice_get_past scripts player past) in
      absurd (omega arith)
]

-- with an entry of a player who has commands left, a legal order is legal
pub legal_more : (scripts : List Script) (player : ℕ) (order : List ℕ) → IsLegalOrder scripts order → turns_of player order < length (lines_of scripts player) → IsLegalOrder scripts (order ++ player ∷ [])
legal_more scripts player order legal left = record { players = All-append (λ p. p < length scripts) order (player ∷ []) legal.players one; within = each }
  where
    one : All (λ p. p < length scripts) (player ∷ [])
    one zero d within = player_there scripts player (turns_of player order) left
    one (suc k) d within = absurd (omega (arith, within))

    each : (q : ℕ) → turns_of q (order ++ player ∷ []) ≤ length (lines_of scripts q)
    each q = dite (ℕ_discrete player q)
        (λ same. subst (λ (p : ℕ). turns_of p (order ++ player ∷ []) ≤ length (lines_of scripts p)) same (omega (arith, turns_of-same player order, left)))
        (λ differ. omega (arith, turns_of-other q player order differ, legal.within q))

-- a player has at most 10,000 commands
pub lines_of-within : (case : Case) → IsLoggable case → (player : ℕ) → length (lines_of case.scripts player) ≤ 10000
lines_of-within case loggable player = elim (slice_get_cases case.scripts player).1 [
  | inl at ↦
      let here : length at.0.lines ≤ 10000 = subst (λ (s : Script). length s.lines ≤ 10000) at.3 (loggable.lines player at.0 at.1) in
      subst (λ s. length (option_map_or (λ (script : Script). script.lines) s []) ≤ 10000) (sym at.2) here
  | inr past ↦ subst (λ s. length (option_map_or (λ (script : Script). script.lines) s []) ≤ 10000) (sym past.1) (omega arith)
]

-- a log has room for each case within the limits
pub loggable_within : (case : Case) → IsWithinLimits (workload_of case) → IsLoggable case
loggable_within case within = record {
  some = grind (arith, nat_tests, within.scripts);
  scripts = grind (arith, nat_tests, within.scripts);
  lines = λ k d there. (within.each k d there).lines;
}

-- how many entries are of the first n players
abbrev entries_below : ℕ → List ℕ → ℕ
entries_below n [] = 0
entries_below n (p ∷ ps) = cond (ltb p n) 1 0 + entries_below n ps

below_none : (order : List ℕ) → entries_below 0 order ≡ 0
below_none [] = refl
below_none (p ∷ ps) =
    let none : cond {A = ℕ} (ltb p 0) 1 0 ≡ 0 = grind (arith, nat_tests) in
    omega (arith, none, below_none ps)

below_more : (n : ℕ) (order : List ℕ) → entries_below (suc n) order ≡ entries_below n order + turns_of n order
below_more n [] = omega arith
below_more n (p ∷ ps) =
    let entry : cond {A = ℕ} (ltb p (suc n)) 1 0 ≡ cond (ltb p n) 1 0 + cond (eqb p n) 1 0 = grind (arith, nat_tests) in
    omega (arith, entry, below_more n ps, sum_by-cons (λ (q : ℕ). cond (eqb q n) 1 0) p ps)

below_all : (n : ℕ) (order : List ℕ) → All (λ p. p < n) order → entries_below n order ≡ length order
below_all n [] all = refl
below_all n (p ∷ ps) all =
    let is : p < n = all 0 0 (omega arith) in
    let first : cond {A = ℕ} (ltb p n) 1 0 ≡ 1 = grind (arith, nat_tests) in
    omega (arith, first, below_all n ps (λ k d within. all (suc k) d (omega (arith, within))))

below_within : (most n : ℕ) (order : List ℕ) → ((player : ℕ) → turns_of player order ≤ most) → entries_below n order ≤ n * most
below_within most zero order each = omega (arith, below_none order)
below_within most (suc n) order each = omega (arith, below_more n order, below_within most n order each, each n)

-- a legal order has at most 640,000 entries
pub length-legal : (case : Case) (order : List ℕ) → IsLoggable case → IsLegalOrder case.scripts order → length order ≤ 640000
length-legal case order loggable legal =
    let each : (player : ℕ) → turns_of player order ≤ 10000 = λ player. omega (arith, legal.within player, lines_of-within case loggable player) in
    omega (arith, below_all (length case.scripts) order legal.players, below_within 10000 (length case.scripts) order each, loggable.scripts)
