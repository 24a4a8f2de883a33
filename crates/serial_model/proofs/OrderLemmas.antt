-- One entry more of an order: who has had how many turns, and which command it is.
use Rattle.std.proofs.Common.{◌≡◌, ℕ, suc, ◌+◌, ◌<◌, ◌≤◌, eqb, Bool, true, false, List, [], ◌∷◌, ◌++◌, length, take, get_or, Option, Some, refl, sym, ap, ◌∙◌, subst, arith}
use Rattle.std.specs.Prelude.{All, slice_get}
use Rattle.std.specs.Option.{option_map_or}
use Rattle.std.proofs.lemmas.Bool.{eq-eqb, eqb-true, ne_eqb, false≢true}
use Rattle.std.proofs.lemmas.List.{take_more, get_or-take, length-take-le}
use Rattle.std.proofs.lemmas.List.Elements.{All-push}
use Rattle.std.proofs.lemmas.List.Sums.{fold_more, count_by_more_yes, count_by_more_no}
use Rattle.std.proofs.lemmas.Option.{get_or_from_slice_get, slice_get_within}
use Rattle.edit_terms.specs.declared.script.Line.{Line}
use Rattle.edit_terms.specs.declared.script.Script.{Script}
use Rattle.edit_terms.specs.declared.step.Step.TheVariants.{Settled}
use Rattle.run_terms.specs.Session.{Session, opening_session, session_after, step_of_line, resolved_command, after_command}
use Rattle.run_terms.specs.Order.{IsLegalOrder, lines_of, turns_of, source_of, ticket_of, AreTicketsNamed}

-- ---- turns

module _ (order : List ℕ) (ticket player : ℕ) (within : ticket < length order) (is : get_or order ticket 0 ≡ player) where
  pub turns_more : turns_of player (take (suc ticket) order) ≡ suc (turns_of player (take ticket order))
  turns_more =
      let next : suc ticket ≡ ticket + 1 = omega arith in
      let one : suc (turns_of player (take ticket order)) ≡ turns_of player (take ticket order) + 1 = omega arith in
      ap (λ (n : ℕ). turns_of player (take n order)) next
      ∙ count_by_more_yes (λ p. eqb p player) order ticket 0 within (eq-eqb (get_or order ticket 0) player is) ∙ sym one

  pub turns_same : (other : ℕ) → (player ≡ other → ⊥) → turns_of other (take (suc ticket) order) ≡ turns_of other (take ticket order)
  turns_same other differs =
      let next : suc ticket ≡ ticket + 1 = omega arith in
      ap (λ (n : ℕ). turns_of other (take n order)) next
      ∙ count_by_more_no (λ p. eqb p other) order ticket 0 within (ne_eqb (get_or order ticket 0) other (λ e. differs (sym is ∙ e)))

  -- the ticket's command is its player's next one
  pub source_is : source_of order ticket ≡ record { player = player; step = turns_of player (take ticket order) }
  source_is = ap (λ (p : ℕ). record { player = p; step = turns_of p (take ticket order) }) is

  pub ticket_is : AreTicketsNamed order → ticket_of order (record { player = player; step = turns_of player (take ticket order) }) ≡ ticket
  ticket_is named = ap (ticket_of order) (sym source_is) ∙ named ticket within

  -- an entry more of a legal order is one of a player with a command left
  pub legal_more : (scripts : List Script) → IsLegalOrder scripts (take ticket order) → player < length scripts → turns_of player (take ticket order) < length (lines_of scripts player)
      → IsLegalOrder scripts (take (suc ticket) order)
  legal_more scripts legal known left =
      let next : suc ticket ≡ ticket + 1 = omega arith in
      let longer : take (suc ticket) order ≡ take ticket order ++ get_or order ticket 0 ∷ [] = ap (λ (n : ℕ). take n order) next ∙ take_more order ticket 0 within in
      record {
        players = subst (λ (ps : List ℕ). All (λ p. p < length scripts) ps) (sym longer) (All-push (λ p. p < length scripts) (take ticket order) (get_or order ticket 0) legal.players (omega (arith, known, is)));
        within = λ q. by_player q;
      }
    where
      by_turns : (q : ℕ) → turns_of q (take ticket order) ≤ length (lines_of scripts q) → (same : Bool) → eqb player q ≡ same → turns_of q (take (suc ticket) order) ≤ length (lines_of scripts q)
      by_turns q old true e =
          let same : player ≡ q = eqb-true player q e in
          subst (λ (r : ℕ). turns_of r (take (suc ticket) order) ≤ length (lines_of scripts r)) same (omega (arith, turns_more, left))
      by_turns q old false e = omega (arith, turns_same q (λ s. false≢true (sym e ∙ eq-eqb player q s)), old)

      by_player : (q : ℕ) → turns_of q (take (suc ticket) order) ≤ length (lines_of scripts q)
      by_player q = by_turns q (legal.within q) (eqb player q) refl

  -- an entry that is no player, or whose player has no command left, makes it illegal
  pub unknown_is_illegal : (scripts : List Script) → length scripts ≤ player → IsLegalOrder scripts (take (suc ticket) order) → ⊥
  unknown_is_illegal scripts past legal =
      let long = length-take-le (suc ticket) order (omega (arith, within)) in
      let last : get_or (take (suc ticket) order) ticket 0 < length scripts = legal.players ticket 0 (omega (arith, long)) in
      absurd (omega (arith, last, past, is, get_or-take (suc ticket) order ticket 0 (omega arith)))

  pub spent_is_illegal : (scripts : List Script) → length (lines_of scripts player) ≤ turns_of player (take ticket order) → IsLegalOrder scripts (take (suc ticket) order) → ⊥
  spent_is_illegal scripts past legal = absurd (omega (arith, legal.within player, turns_more, past))

-- ---- a line more

module _ (player depth : ℕ) (lines : List Line) (number : ℕ) (line : Line) (there : slice_get lines number ≡ Some line) where
  pub step_is : step_of_line player depth lines number ≡ resolved_command (session_after player depth (take number lines)) line.command
  step_is = ap (λ (o : Option Line). option_map_or (λ l. resolved_command (session_after player depth (take number lines)) l.command) o Settled) there

  pub session_more : session_after player depth (take (suc number) lines) ≡ after_command (session_after player depth (take number lines)) line.command
  session_more =
      let next : suc number ≡ number + 1 = omega arith in
      let within = slice_get_within lines number line there in
      let read : get_or lines number line ≡ line = get_or_from_slice_get lines number line line there in
      ap (λ (n : ℕ). session_after player depth (take n lines)) next
      ∙ fold_more (λ (s : Session) (l : Line). after_command s l.command) (opening_session player depth) lines number line within
      ∙ ap (λ (l : Line). after_command (session_after player depth (take number lines)) l.command) read
