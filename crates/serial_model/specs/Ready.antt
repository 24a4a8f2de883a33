-- When a player's next command can be taken.
use Rattle.std.specs.Prelude.{◌≡◌, ◌<◌, true, length, All}
use Rattle.edit_terms.specs.declared.script.Command.{Command}
use Rattle.run_terms.specs.Fold.{edits_taken_by}
use Rattle.run_terms.specs.Limits.{is_command_within}
use Rattle.run_terms.specs.Session.{resolved_command}
use Rattle.run_terms.specs.SessionLimits.{IsSessionWithin}
use Rattle.world_canvas.specs.Canvas.{Painting}
use Rattle.serial_model.specs.Recorded.{IsRecord}
use Rattle.serial_model.specs.declared.player.Player.{Player}

-- the command is within the limits, the session took fewer than 10,000, and what the command takes is recorded
pub record IsReady (p : Painting) (player : Player) (command : Command) : Type 0 where
  pub number : player.session.number < 10000
  pub recorded : IsRecord p player.recorded
  pub edits : All (λ n. n < length player.recorded.changes) (edits_taken_by (resolved_command player.session command))
  pub session : IsSessionWithin player.session
  pub command_within : is_command_within command ≡ true
