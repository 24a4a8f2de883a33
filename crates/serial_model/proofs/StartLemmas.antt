-- Where the fold begins and where it stops.
use Rattle.std.proofs.Common.{◌≡◌, ℕ, suc, ◌<◌, ◌≤◌, ◌⊎◌, true, List, [], length, map, take, get_or, Option, Some, None, refl, sym, ap, ◌∙◌, subst, inl, inr, arith}
use Rattle.std.specs.Prelude.{All, slice_get}
use Rattle.std.specs.List.{range_with_len}
use Rattle.std.specs.Option.{option_map_or}
use Rattle.std.proofs.lemmas.Bool.{cases_lt}
use Rattle.std.proofs.lemmas.List.{length-map, length-take-le}
use Rattle.std.proofs.lemmas.List.Elements.{All-nil}
use Rattle.std.proofs.lemmas.List.FromFn.{get_or-map-range_with_len, length-range_with_len}
use Rattle.std.proofs.lemmas.Option.{none-some, slice_get_within, slice_get_cases, get_or_from_slice_get}
use Rattle.edit_terms.specs.declared.outcome.Reply.{Reply}
use Rattle.edit_terms.specs.declared.script.Case.{Case}
use Rattle.edit_terms.specs.declared.script.Command.{Command}
use Rattle.edit_terms.specs.declared.script.Line.{Line}
use Rattle.edit_terms.specs.declared.script.Script.{Script}
use Rattle.edit_terms.specs.declared.step.Step.{Step}
use Rattle.edit_terms.specs.Grid.{world_of}
use Rattle.run_terms.specs.Fold.{edits_taken_by}
use Rattle.run_terms.specs.Limits.{is_command_within, IsScriptWithin, IsWithinLimits}
use Rattle.run_terms.specs.Order.{IsLegalOrder, lines_of, turns_of}
use Rattle.run_terms.specs.Session.{Session, resolved_command, step_of_line}
use Rattle.run_terms.specs.Workload.{Workload, workload_of}
use Rattle.run_terms.proofs.Earlier.{session_has_taken, step_is_of_earlier}
use Rattle.run_terms.proofs.LimitLemmas.{few_lines, line_has, lines_within}
use Rattle.run_terms.proofs.SessionLimitLemmas.{opening_within}
use Rattle.world_canvas.specs.declared.cell_change.CellChange.{CellChange}
use Rattle.world_canvas.specs.Canvas.{Painting, shown}
use Rattle.world_canvas.specs.Changes.{AreChangesNamed, AreChangesIn}
use Rattle.serial_model.specs.declared.player.Player.{Player}
use Rattle.serial_model.specs.Folded.{IsPlayerAt, IsFolded}
use Rattle.serial_model.specs.Illegal.{IsFirstIllegal}
use Rattle.serial_model.specs.Ready.{IsReady}
use Rattle.serial_model.specs.Starting.{starting_player}
use Rattle.serial_model.specs.Turns.{HasNoCommand, IsNextCommand}
use Rattle.serial_model.proofs.OrderLemmas.{unknown_is_illegal, spent_is_illegal, step_is}

-- ---- the start

player_starts : (case : Workload) (order : List ℕ) (p : Painting) (number : ℕ) → IsPlayerAt case order 0 p number (starting_player case.depth number)
player_starts case order p number = record {
  session = refl;
  within = opening_within number case.depth;
  clip = tt;
  counted = refl;
  changes = λ n below. absurd (omega (arith, below));
  recorded = record { copied = tt; named = All-nil (λ (cs : List CellChange). AreChangesNamed p.kinds cs); within = All-nil (λ (cs : List CellChange). AreChangesIn p.area cs) };
}

-- before the first ticket, whatever the order
pub starts : (case : Case) (p : Painting) (players : List Player) (answered : List Reply) → shown p ≡ world_of case.opening → players ≡ map (starting_player case.depth) (range_with_len 0 (length case.scripts)) → answered ≡ []
    → (order : List ℕ) → IsFolded (workload_of case) order 0 p players answered
starts case p players answered world are none order = record {
  legal = record { players = All-nil (λ (q : ℕ). q < length case.scripts); within = λ q. omega arith };
  world = world;
  replies = none;
  count = ap (λ (ps : List Player). length ps) are ∙ length-map (range_with_len 0 (length case.scripts)) (starting_player case.depth) ∙ length-range_with_len 0 (length case.scripts);
  each = λ n d inside.
      subst (λ (q : Player). IsPlayerAt (workload_of case) order 0 p n q)
      (sym (ap (λ (ps : List Player). get_or ps n d) are ∙ get_or-map-range_with_len (starting_player case.depth) 0 (length case.scripts) n n d inside (omega arith)))
      (player_starts (workload_of case) order p n);
}

-- ---- a player's next command

-- what isn't read lies past the end
past_when_none : {X : Type 0} (xs : List X) (n : ℕ) → slice_get xs n ≡ None → length xs ≤ n
past_when_none xs n none = elim (slice_get_cases xs n).1 [
  | inl found ↦ absurd (none-some found.0 (sym none ∙ found.2))
  | inr past ↦ past.0
]

-- a command of a script of a workload within the limits
record IsLineWithin (line : Line) (n : ℕ) : Type 0 where
  few : n < 10000
  within : is_command_within line.command ≡ true

line_within : (scripts : List Script) (number n : ℕ) (line : Line) → All IsScriptWithin scripts → slice_get (lines_of scripts number) n ≡ Some line → IsLineWithin line n
line_within scripts number n line each there = record {
  few = omega (arith, few_lines scripts each number, slice_get_within (lines_of scripts number) n line there);
  within = line_has (λ l. is_command_within l.command ≡ true) (lines_of scripts number) (lines_within scripts each number) n line there;
}

module _ (case : Workload) (order : List ℕ) (ticket number : ℕ) (p : Painting) (player : Player) (at : IsPlayerAt case order ticket p number player) (few : turns_of number (take ticket order) ≤ length (lines_of case.scripts number)) where
  -- the session took as many commands as the player had turns
  pub took : player.session.number ≡ turns_of number (take ticket order)
  took =
      ap (λ (s : Session). s.number) at.session
      ∙ (session_has_taken number case.depth (take (turns_of number (take ticket order)) (lines_of case.scripts number))).number
      ∙ length-take-le (turns_of number (take ticket order)) (lines_of case.scripts number) few

  -- what the command of a line takes is recorded
  edits_recorded : (line : Line) → slice_get (lines_of case.scripts number) player.session.number ≡ Some line → All (λ n. n < length player.recorded.changes) (edits_taken_by (resolved_command player.session line.command))
  edits_recorded line there =
      let turns = turns_of number (take ticket order) in
      let lines = lines_of case.scripts number in
      let there_too : slice_get lines turns ≡ Some line = subst (λ (n : ℕ). slice_get lines n ≡ Some line) took there in
      let same : step_of_line number case.depth lines turns ≡ resolved_command player.session line.command =
      step_is number case.depth lines turns line there_too ∙ ap (λ (s : Session). resolved_command s line.command) (sym at.session) in
      let all : turns ≡ length player.recorded.changes = sym took ∙ sym at.counted in
      subst (λ (m : ℕ). All (λ n. n < m) (edits_taken_by (resolved_command player.session line.command))) all
      (subst (λ (step : Step). All (λ n. n < turns) (edits_taken_by step)) same (step_is_of_earlier number case.depth lines turns).taken)

-- the next command can be taken
pub ready : (case : Workload) (order : List ℕ) (ticket number : ℕ) (p : Painting) (players : List Player) (answered : List Reply) (command : Command) (d : Player)
    → IsWithinLimits case → IsFolded case order ticket p players answered → IsNextCommand case.scripts players number command → IsReady p (get_or players number d) command
ready case order ticket number p players answered command d limits h next =
    let at = h.each number d next.known in
    let line : IsLineWithin next.line (get_or players number d).session.number = line_within case.scripts number (get_or players number d).session.number next.line limits.each (next.there d) in
    record {
      number = line.few;
      recorded = at.recorded;
      edits = subst (λ (c : Command). All (λ n. n < length (get_or players number d).recorded.changes) (edits_taken_by (resolved_command (get_or players number d).session c))) (sym next.is)
          (edits_recorded case order ticket number p (get_or players number d) at (h.legal.within number) next.line (next.there d));
      session = at.within;
      command_within = subst (λ (c : Command). is_command_within c ≡ true) (sym next.is) line.within;
    }

-- without a next command the order stops being legal
pub stops : (case : Workload) (order : List ℕ) (ticket number : ℕ) (p : Painting) (players : List Player) (answered : List Reply) → ticket < length order → get_or order ticket 0 ≡ number
    → IsFolded case order ticket p players answered → HasNoCommand case.scripts players number → IsFirstIllegal case.scripts order ticket
stops case order ticket number p players answered within is h none = record { within = within; before = h.legal; illegal = by_player (cases_lt number (length case.scripts)) }
  where
    d : Player
    d = starting_player 0 0

    by_player : (number < length case.scripts) ⊎ (length case.scripts ≤ number) → ¬ IsLegalOrder case.scripts (take (suc ticket) order)
    by_player (inl known) =
        let same = took case order ticket number p (get_or players number d) (h.each number d known) (h.legal.within number) in
        let spent : length (lines_of case.scripts number) ≤ (get_or players number d).session.number = past_when_none (lines_of case.scripts number) (get_or players number d).session.number (none d) in
        spent_is_illegal order ticket number within is case.scripts (omega (arith, same, spent))
    by_player (inr past) = unknown_is_illegal order ticket number within is case.scripts past
