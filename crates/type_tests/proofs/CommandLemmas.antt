-- What is so of a case whose players have equally many commands.
use Rattle.std.proofs.Common.{◌≡◌, ℕ, ◌<◌, ◌≤◌, [], length, ap, ◌∙◌, subst, inl, inr, arith}
use Rattle.std.specs.Option.{option_map_or}
use Rattle.std.proofs.lemmas.Option.{slice_get_cases}
use Rattle.edit_terms.specs.declared.script.Case.{Case}
use Rattle.edit_terms.specs.declared.script.Script.{Script}
use Rattle.run_terms.specs.Order.{lines_of}
use Rattle.ticket_log.specs.Orders.{IsLoggable}
use Rattle.type_tests.specs.Commands.{HasCommands}

pub is_loggable : (case : Case) (players commands : ℕ) → HasCommands case players commands → 1 ≤ players → players ≤ 64 → commands ≤ 10000 → IsLoggable case
is_loggable case players commands has some few short = record {
  some = omega (arith, has.scripts);
  scripts = omega (arith, has.scripts);
  lines = λ k d within. let n = has.each k d within in omega (arith, n);
}

pub lines_there : (case : Case) (players commands player : ℕ) → HasCommands case players commands → player < players → length (lines_of case.scripts player) ≡ commands
lines_there case players commands player has there = elim (slice_get_cases case.scripts player).1 [
  | inl at ↦
      ap (λ s. length (option_map_or (λ (script : Script). script.lines) s [])) at.2
      ∙ subst (λ (s : Script). length s.lines ≡ commands) at.3 (has.each player at.0 at.1)
  | inr past ↦ absurd (omega (arith, past.0, has.scripts, there))
]
