-- What the fields of a session keep, whatever its commands.
use Rattle.std.specs.Prelude.{ℕ, ◌<◌, ◌≤◌, length, All, vec_capacity}
use Rattle.player_session.specs.declared.history.History.{History}

-- Depth and number are in their ranges; the history holds earlier commands, at most as many as its depth, and has
-- room for these; its cursor stands among them or at an end.
pub record IsKept (depth number : ℕ) (history : History) : Type 0 where
  pub low : 1 ≤ depth
  pub high : depth ≤ 1000
  pub count : number ≤ 10000
  pub earlier : All (λ n. n < number) history.edits.items
  pub within : length history.edits.items ≤ depth
  pub among : history.cursor ≤ length history.edits.items
  pub room : depth ≤ vec_capacity history.edits
