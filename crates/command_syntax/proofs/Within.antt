-- The limits of a script, command by command.
use Rattle.std.proofs.Common.{◌≡◌, ℕ, ◌+◌, ◌<◌, ◌≤◌, true, List, [], ◌∷◌, ◌++◌, length, refl, arith, length-append}
use Rattle.std.specs.Prelude.{All}
use Rattle.std.proofs.lemmas.List.Elements.{All-nil, All-cons, All-append}
use Rattle.edit_terms.specs.declared.script.Line.{Line}
use Rattle.run_terms.specs.Limits.{is_command_within}

-- so many commands within the limits
pub record AreWithin (commands : List Line) (count : ℕ) : Type 0 where
  pub counted : length commands ≡ count
  pub few : count ≤ 10000
  pub each : All (λ (line : Line). is_command_within line.command ≡ true) commands

pub none_within : AreWithin [] 0
none_within = record { counted = refl; few = omega arith; each = All-nil (λ (line : Line). is_command_within line.command ≡ true) }

-- one more command
pub one_within : (commands : List Line) (count : ℕ) (command : Line) → AreWithin commands count → count < 10000 → is_command_within command.command ≡ true → AreWithin (commands ++ command ∷ []) (count + 1)
one_within commands count command so_far below within = record {
  counted = omega (arith, length-append commands (command ∷ []), so_far.counted);
  few = omega arith;
  each = All-append (λ (line : Line). is_command_within line.command ≡ true) commands (command ∷ []) so_far.each (All-cons (λ (line : Line). is_command_within line.command ≡ true) command [] within (All-nil (λ (line : Line). is_command_within line.command ≡ true)));
}
