-- What the types of a log keep true of the handles in them.
use Rattle.std.specs.Prelude.{◌≡◌, ℕ, ◌<◌, Bool, true, false, List, [], length, slice_index, replicate}
use Rattle.atomic_table.specs.Seated.{TableId}
use Rattle.edit_terms.specs.declared.script.Case.{Case}
use Rattle.run_terms.specs.Order.{turns_of, IsLegalOrder}
use Rattle.ticket_log.specs.Orders.{IsLoggable}
use Rattle.ticket_log.specs.Views.{Held, view_of}

-- a handle of this table, which draws or doesn't
pub record IsHandle (table : TableId) (drawing : Bool) (of : TableId) (me : Held) : Type 0 where
  pub own : of ≡ table
  pub draws : me.0.draws ≡ drawing
  pub idle : me.1 ≡ []

-- a snapshot: a handle that doesn't draw, with the length of what it has seen
pub record IsSnapshot (table : TableId) (case : Case) (of : TableId) (me : Held) (size : ℕ) : Type 0 where
  pub handle : IsHandle table false of me
  pub legal : IsLegalOrder case.scripts me.0.order
  pub seen : size ≡ length me.0.order

-- the appender: the handle that draws, with the length of the order and the number of entries of each player
pub record IsAppender (table : TableId) (case : Case) (of : TableId) (me : Held) (size : ℕ) (numbers : List ℕ) : Type 0 where
  pub handle : IsHandle table true of me
  pub legal : IsLegalOrder case.scripts me.0.order
  pub tickets : size ≡ length me.0.order
  pub players : length numbers ≡ length case.scripts
  pub counts : (player : ℕ) → player < length case.scripts → slice_index numbers player ≡ turns_of player me.0.order

-- a log before it has its name: a word for each player, the appender's handle with the empty order, and counts of 0
pub record IsBlank (table : TableId) (case : Case) (of : TableId) (me : Held) (numbers : List ℕ) : Type 0 where
  pub loggable : IsLoggable case
  pub words : table.words ≡ length case.scripts
  pub own : of ≡ table
  pub fresh : me ≡ (view_of true [], [])
  pub counts : numbers ≡ replicate (length case.scripts) 0
