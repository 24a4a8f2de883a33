-- Serial orders: one list of player numbers that takes all players' commands one after the other, each player's
-- in script order. The entry at a place is that ticket's player.
use Rattle.std.specs.Prelude.{◌≡◌, ℕ, zero, suc, ◌<◌, ◌≤◌, ◌==◌, if◌then◌else◌, List, [], ◌∷◌, length, take, slice_get, slice_index, All, count_by}
use Rattle.std.specs.Option.{option_map_or}
use Rattle.edit_terms.specs.declared.clip.Source.{Source}
use Rattle.edit_terms.specs.declared.script.Line.{Line}
use Rattle.edit_terms.specs.declared.script.Script.{Script}
use Rattle.edit_terms.specs.declared.step.Step.{Step}
use Rattle.run_terms.specs.Workload.{Workload}
use Rattle.run_terms.specs.Session.{step_of_line}

-- the commands of a player, none where there is no such player
abbrev pub lines_of : List Script → ℕ → List Line
lines_of scripts player = option_map_or (λ script. script.lines) (slice_get scripts player) []

-- how often a player stands in an order
abbrev pub turns_of : ℕ → List ℕ → ℕ
turns_of player order = count_by (λ p. p == player) order

-- each entry is a player, and no player stands there more often than its script has commands
pub record IsLegalOrder (scripts : List Script) (order : List ℕ) : Type 0 where
  pub players : All (λ p. p < length scripts) order
  pub within : (player : ℕ) → turns_of player order ≤ length (lines_of scripts player)

-- each player stands there exactly as often as its script has commands
abbrev pub IsWholeOrder : List Script → List ℕ → Type 0
IsWholeOrder scripts order = (player : ℕ) → turns_of player order ≡ length (lines_of scripts player)

-- the player of a ticket
abbrev pub player_of : List ℕ → ℕ → ℕ
player_of order ticket = slice_index order ticket

-- the place of a ticket's command in its player's script, from 0: how often the player stood there before
abbrev pub command_number : List ℕ → ℕ → ℕ
command_number order ticket = turns_of (player_of order ticket) (take ticket order)

-- the command id of a ticket
abbrev pub source_of : List ℕ → ℕ → Source
source_of order ticket = record { player = player_of order ticket; step = command_number order ticket }

-- the place of the player's entry that has so many of its entries before it; the length where there is none
abbrev pub ticket_from : List ℕ → ℕ → ℕ → ℕ
ticket_from [] player earlier = 0
ticket_from (p ∷ ps) player zero = if p == player then 0 else suc (ticket_from ps player zero)
ticket_from (p ∷ ps) player (suc earlier) = suc (ticket_from ps player (if p == player then earlier else suc earlier))

-- The ticket of a command id.
abbrev pub ticket_of : List ℕ → Source → ℕ
ticket_of order id = ticket_from order id.player id.step

-- each ticket is the ticket of its command id
abbrev pub AreTicketsNamed : List ℕ → Type 0
AreTicketsNamed order = (ticket : ℕ) → ticket < length order → ticket_of order (source_of order ticket) ≡ ticket

-- what the command of a command id is in its player's session
abbrev pub step_of_command : Workload → Source → Step
step_of_command case id = step_of_line id.player case.depth (lines_of case.scripts id.player) id.step

-- what the command of a ticket is in its player's session
abbrev pub step_of_ticket : Workload → List ℕ → ℕ → Step
step_of_ticket case order ticket = step_of_command case (source_of order ticket)
