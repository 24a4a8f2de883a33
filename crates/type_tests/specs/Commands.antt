-- Cases whose players have equally many commands.
use Rattle.std.specs.Prelude.{◌≡◌, ℕ, length, All}
use Rattle.edit_terms.specs.declared.script.Case.{Case}

pub record HasCommands (case : Case) (players commands : ℕ) : Type 0 where
  pub scripts : length case.scripts ≡ players
  pub each : All (λ script. length script.lines ≡ commands) case.scripts
