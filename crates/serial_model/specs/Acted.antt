-- What a player's next command comes to.
use Rattle.std.specs.Prelude.{◌≡◌, ℕ, List, [], ◌∷◌, ◌++◌, length, Some, if◌then◌else◌}
use Rattle.edit_terms.specs.declared.script.Command.{Command}
use Rattle.edit_terms.specs.declared.outcome.Reply.{Reply}
use Rattle.run_terms.specs.Reply.{reply_to}
use Rattle.run_terms.specs.Session.{resolved_command, after_command}
use Rattle.world_canvas.specs.declared.cell_change.CellChange.{CellChange}
use Rattle.world_canvas.specs.Canvas.{Painting}
use Rattle.serial_model.specs.Copying.{is_copying}
use Rattle.serial_model.specs.Recorded.{IsCarriedOut, task_recorded}
use Rattle.serial_model.specs.declared.player.Player.{Player}

-- A player's next command: it is carried out, answered and recorded, and the session goes on.
pub record IsActed (seed ticket : ℕ) (old new : Painting) (before after : Player) (command : Command) (reply : Reply) : Type 0 where
  pub changes : List CellChange
  pub carried : IsCarriedOut (task_recorded old before.recorded seed ticket) (resolved_command before.session command) old new changes
  pub session : after.session ≡ after_command before.session command
  pub copied : after.recorded.copied ≡ (if is_copying (resolved_command before.session command) then Some old.cells else before.recorded.copied)
  pub recorded : after.recorded.changes ≡ before.recorded.changes ++ changes ∷ []
  pub replied : reply ≡ reply_to (resolved_command before.session command) (length changes)
