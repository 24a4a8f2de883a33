-- Where the reference execution stands after so many tickets of an order.
use Rattle.std.specs.Prelude.{◌≡◌, ℕ, ◌<◌, List, [], length, map, take, get_or, Option, Some, IfSome}
use Rattle.std.specs.List.{range_with_len}
use Rattle.edit_terms.specs.declared.clip.Clip.{Clip}
use Rattle.edit_terms.specs.declared.outcome.Reply.{Reply}
use Rattle.run_terms.specs.Session.{Session, session_after}
use Rattle.run_terms.specs.SessionLimits.{IsSessionWithin}
use Rattle.run_terms.specs.Workload.{Workload}
use Rattle.run_terms.specs.Order.{IsLegalOrder, lines_of, turns_of, ticket_of}
use Rattle.run_terms.specs.Fold.{world_after, changes_of}
use Rattle.run_terms.specs.Reply.{reply_of}
use Rattle.plain_terms.specs.Shown.{world_shown}
use Rattle.world_canvas.specs.Canvas.{Painting, shown}
use Rattle.world_canvas.specs.Changes.{changes_shown}
use Rattle.serial_model.specs.declared.player.Player.{Player}
use Rattle.serial_model.specs.Recorded.{IsRecord}

-- the session of a player after so many tickets
abbrev pub session_at : Workload → List ℕ → ℕ → ℕ → Session
session_at case order ticket player = session_after player case.depth (take (turns_of player (take ticket order)) (lines_of case.scripts player))

-- the recorded numbers show the world from which a clipboard was copied
pub record IsCopied (case : Workload) (order : List ℕ) (p : Painting) (copied : Option (List ℕ)) (clip : Clip) : Type 0 where
  pub cells : List ℕ
  pub is : copied ≡ Some cells
  pub shows : world_shown p.area p.kinds cells ≡ world_after case order (ticket_of order clip.source)

-- a player after so many tickets: the session, the world of its clipboard, and the changes of its commands
pub record IsPlayerAt (case : Workload) (order : List ℕ) (ticket : ℕ) (p : Painting) (number : ℕ) (player : Player) : Type 0 where
  pub session : player.session ≡ session_at case order ticket number
  pub within : IsSessionWithin player.session
  pub clip : IfSome player.session.clip (IsCopied case order p player.recorded.copied)
  pub counted : length player.recorded.changes ≡ player.session.number
  pub changes : (n : ℕ) → n < player.session.number → changes_shown p.kinds (get_or player.recorded.changes n []) ≡ changes_of case order (ticket_of order (record { player = number; step = n }))
  pub recorded : IsRecord p player.recorded

-- the first so many tickets of an order are legal, the canvas shows the world after them, and the replies are theirs
pub record IsFolded (case : Workload) (order : List ℕ) (ticket : ℕ) (p : Painting) (players : List Player) (answered : List Reply) : Type 0 where
  pub legal : IsLegalOrder case.scripts (take ticket order)
  pub world : shown p ≡ world_after case order ticket
  pub replies : answered ≡ map (reply_of case order) (range_with_len 0 ticket)
  pub count : length players ≡ length case.scripts
  pub each : (n : ℕ) (d : Player) → n < length case.scripts → IsPlayerAt case order ticket p n (get_or players n d)
