-- The order in rounds has each command of each player, and so is legal.
use Rattle.std.proofs.Common.{◌≡◌, ℕ, suc, ◌+◌, ◌<◌, ◌≤◌, Bool, true, false, cond, eqb, ltb, min, List, [], ◌∷◌, ◌++◌, length, take, drop, get_or, Option, refl, sym, ap, ◌∙◌, subst, inl, inr, arith}
use Rattle.std.specs.Prelude.{All, nat_le}
use Rattle.std.specs.Option.{option_map_or}
use Rattle.std.proofs.lemmas.Bool.{cases_lt, lt-ltb, le-ltb, eq-eqb, ne_eqb, leb-true}
use Rattle.std.proofs.lemmas.List.{take-append-drop, get_or_default}
use Rattle.std.proofs.lemmas.List.Elements.{All-take}
use Rattle.std.proofs.lemmas.List.Sums.{sum_by-append, sum_by-cons}
use Rattle.std.proofs.lemmas.Option.{slice_get_cases}
use Rattle.edit_terms.specs.declared.outcome.Outcome.{Outcome}
use Rattle.edit_terms.specs.declared.script.Line.{Line}
use Rattle.edit_terms.specs.declared.script.Script.{Script}
use Rattle.run_terms.specs.Order.{IsLegalOrder, IsWholeOrder, lines_of, turns_of}
use Rattle.run_terms.specs.Reply.{replies_of, final_world, IsOutcome}
use Rattle.run_terms.specs.Workload.{Workload, workload_of}
use Rattle.run_terms.proofs.LimitLemmas.{lines_are}
use Rattle.run_terms.proofs.OrderLemmas.{legal_from_whole, lines_of-past}
use Rattle.serial_model.specs.declared.plain_error.PlainError.{PlainError}
use Rattle.serial_model.specs.declared.plain_error.PlainError.TheVariants.{Illegal}
use Rattle.serial_model.specs.Illegal.{IsFirstIllegal, IsErrorOf}
use Rattle.serial_model.specs.Outcomes.{IsRunIn}

-- ---- a turn more

turns_behind : (player : ℕ) (xs ys : List ℕ) → turns_of player (xs ++ ys) ≡ turns_of player xs + turns_of player ys
turns_behind player xs ys = sum_by-append (λ (p : ℕ). cond (eqb p player) 1 0) xs ys

-- what the turn of a player adds
one_turn : (player acting : ℕ) (due : Bool) → turns_of player (cond due (acting ∷ []) []) ≡ cond due (cond (eqb acting player) 1 0) 0
one_turn player acting true = sum_by-cons (λ (p : ℕ). cond (eqb p player) 1 0) acting [] ∙ omega arith
one_turn player acting false = refl

-- a player has had the turn of a round where it is due and the player stands before this one
abbrev pub turn_before : (round : ℕ) (scripts : List Script) (count player : ℕ) → ℕ
turn_before round scripts count player = cond (ltb player count) (cond (ltb round (length (lines_of scripts player))) 1 0) 0

-- one more player of a round
pub turn_more : (round : ℕ) (scripts : List Script) (acting : ℕ) (script : Script) (order : List ℕ) (due : Bool) (start player : ℕ) → acting < length scripts → script ≡ get_or scripts acting script
    → due ≡ ltb round (length script.lines) → turns_of player order ≡ start + turn_before round scripts acting player
    → turns_of player (order ++ cond due (acting ∷ []) []) ≡ start + turn_before round scripts (acting + 1) player
turn_more round scripts acting script order due start player within is is_due before =
    turns_behind player order (cond due (acting ∷ []) [])
    ∙ ap (λ (n : ℕ). turns_of player order + n) (one_turn player acting due)
    ∙ elim (cases_lt player acting) [
      | inl earlier ↦
          let other : eqb acting player ≡ false = ne_eqb acting player (λ e. omega (arith, e, earlier)) in
          let old : ltb player acting ≡ true = lt-ltb player acting earlier in
          let new : ltb player (acting + 1) ≡ true = lt-ltb player (acting + 1) (omega (arith, earlier)) in
          added (cond due (cond (eqb acting player) 1 0) 0) 0 (ap (λ (b : Bool). cond due (cond b 1 0) 0) other ∙ nothing due)
          ∙ none_more ∙ before
          ∙ ap (λ (b : Bool). start + cond b (cond (ltb round (length (lines_of scripts player))) 1 0) 0) (old ∙ sym new)
      | inr past ↦ elim (cases_lt acting player) [
        | inl later ↦
            let other : eqb acting player ≡ false = ne_eqb acting player (λ e. omega (arith, e, later)) in
            let old : ltb player acting ≡ false = le-ltb player acting past in
            let new : ltb player (acting + 1) ≡ false = le-ltb player (acting + 1) (omega (arith, later)) in
            added (cond due (cond (eqb acting player) 1 0) 0) 0 (ap (λ (b : Bool). cond due (cond b 1 0) 0) other ∙ nothing due)
            ∙ none_more ∙ before
            ∙ ap (λ (b : Bool). start + cond b (cond (ltb round (length (lines_of scripts player))) 1 0) 0) (old ∙ sym new)
        | inr same ↦
            let him : acting ≡ player = omega (arith, past, same) in
            let old : ltb player acting ≡ false = le-ltb player acting past in
            let new : ltb player (acting + 1) ≡ true = lt-ltb player (acting + 1) (omega (arith, him)) in
            let lines : due ≡ ltb round (length (lines_of scripts player)) = is_due ∙ ap (λ (ls : List Line). ltb round (length ls)) (sym (lines_are scripts acting script within is)) ∙ ap (λ (p : ℕ). ltb round (length (lines_of scripts p))) him in
            let sum : turns_of player order ≡ start + 0 = before ∙ ap (λ (b : Bool). start + cond b (cond (ltb round (length (lines_of scripts player))) 1 0) 0) old in
            ap (λ (b : Bool). turns_of player order + cond due (cond b 1 0) 0) (eq-eqb acting player him)
            ∙ ap (λ (b : Bool). turns_of player order + cond b 1 0) lines
            ∙ ap (λ (n : ℕ). n + cond (ltb round (length (lines_of scripts player))) 1 0) sum
            ∙ plus_zero start (cond (ltb round (length (lines_of scripts player))) 1 0)
            ∙ ap (λ (b : Bool). start + cond b (cond (ltb round (length (lines_of scripts player))) 1 0) 0) (sym new)
      ]
    ]
  where
    nothing : (b : Bool) → ◌≡◌ {A = ℕ} (cond b 0 0) 0
    nothing true = refl
    nothing false = refl

    added : (n m : ℕ) → n ≡ m → turns_of player order + n ≡ turns_of player order + m
    added n m e = ap (λ (k : ℕ). turns_of player order + k) e

    none_more : turns_of player order + 0 ≡ turns_of player order
    none_more = omega arith

    plus_zero : (a b : ℕ) → a + 0 + b ≡ a + b
    plus_zero a b = omega arith

-- a whole round
pub round_done : (round : ℕ) (scripts : List Script) (player : ℕ) → turn_before round scripts (length scripts) player ≡ cond (ltb round (length (lines_of scripts player))) 1 0
round_done round scripts player = elim (cases_lt player (length scripts)) [
  | inl known ↦ ap (λ (b : Bool). cond b (cond (ltb round (length (lines_of scripts player))) 1 0) 0) (lt-ltb player (length scripts) known)
  | inr past ↦
      let none : length (lines_of scripts player) ≡ 0 = ap length (lines_of-past scripts player past) in
      ap (λ (b : Bool). cond b (cond (ltb round (length (lines_of scripts player))) 1 0) 0) (le-ltb player (length scripts) past)
      ∙ sym (ap (λ (b : Bool). cond b 1 0) (le-ltb round (length (lines_of scripts player)) (omega (arith, none))))
]

-- so many rounds, and one more
pub min_more : (round n : ℕ) → min round n + cond (ltb round n) 1 0 ≡ min (round + 1) n
min_more round n = elim (cases_lt round n) [
  | inl below ↦ ap (λ (b : Bool). min round n + cond b 1 0) (lt-ltb round n below) ∙ omega (arith, below)
  | inr past ↦ ap (λ (b : Bool). min round n + cond b 1 0) (le-ltb round n past) ∙ omega (arith, past)
]

-- ---- the run of a whole order

turns_fewer : (player n : ℕ) (order : List ℕ) → turns_of player (take n order) ≤ turns_of player order
turns_fewer player n order =
    let parts : turns_of player order ≡ turns_of player (take n order) + turns_of player (drop n order) =
    ap (turns_of player) (sym (take-append-drop n order)) ∙ turns_behind player (take n order) (drop n order) in
    omega (arith, parts)

-- no entry of a whole order makes it illegal
never_illegal : (scripts : List Script) (order : List ℕ) (at : ℕ) → IsWholeOrder scripts order → IsFirstIllegal scripts order at → ⊥
never_illegal scripts order at whole first =
    let legal = legal_from_whole scripts order whole in
    first.illegal (record {
      players = All-take (λ p. p < length scripts) (suc at) order legal.players;
      within = λ player. omega (arith, turns_fewer player (suc at) order, legal.within player);
    })

pub not_illegal : (scripts : List Script) (order : List ℕ) (at : ℕ) (error : PlainError) → IsWholeOrder scripts order → IsErrorOf scripts order error → error ≡ Illegal at → ⊥
not_illegal scripts order at error whole tells is = never_illegal scripts order at whole (subst (λ (e : PlainError). IsErrorOf scripts order e) is tells)

-- a run in a whole order is an outcome
pub is_outcome : (case : Workload) (order : List ℕ) (outcome : Outcome) → IsWholeOrder case.scripts order → IsRunIn case order outcome → IsOutcome case outcome
is_outcome case order outcome whole ran = record {
  legal = subst (λ (ps : List ℕ). IsLegalOrder case.scripts ps) (sym ran.order_is) ran.legal;
  whole = subst (λ (ps : List ℕ). IsWholeOrder case.scripts ps) (sym ran.order_is) whole;
  replies = ran.replies ∙ ap (replies_of case) (sym ran.order_is);
  world = ran.world ∙ ap (final_world case) (sym ran.order_is);
}
