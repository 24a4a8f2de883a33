-- A player before the first command.
use Rattle.std.specs.Prelude.{ℕ, [], None}
use Rattle.run_terms.specs.Session.{opening_session}
use Rattle.serial_model.specs.declared.player.Player.{Player}

-- the opening session, and nothing recorded
abbrev pub starting_player : ℕ → ℕ → Player
starting_player depth number = record { session = opening_session number depth; recorded = record { copied = None; changes = [] } }
