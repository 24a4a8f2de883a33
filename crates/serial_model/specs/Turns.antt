-- Which command of a player comes next.
use Rattle.std.specs.Prelude.{◌≡◌, ℕ, ◌<◌, List, length, get_or, slice_get, Some, None}
use Rattle.edit_terms.specs.declared.script.Command.{Command}
use Rattle.edit_terms.specs.declared.script.Line.{Line}
use Rattle.edit_terms.specs.declared.script.Script.{Script}
use Rattle.run_terms.specs.Order.{lines_of}
use Rattle.serial_model.specs.declared.player.Player.{Player}

-- there is no such player, or its script has no command behind those that the session took
abbrev pub HasNoCommand : List Script → List Player → ℕ → Type 0
HasNoCommand scripts players number = (d : Player) → slice_get (lines_of scripts number) (get_or players number d).session.number ≡ None

-- the command of the script's next line
pub record IsNextCommand (scripts : List Script) (players : List Player) (number : ℕ) (command : Command) : Type 0 where
  pub known : number < length scripts
  pub line : Line
  pub there : (d : Player) → slice_get (lines_of scripts number) (get_or players number d).session.number ≡ Some line
  pub is : command ≡ line.command
