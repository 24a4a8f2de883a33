-- What a handle of the log knows, its view, and how the four kinds of step change it.
use Rattle.std.specs.Prelude.{ℕ, Bool, false, if◌then◌else◌, List, [], ◌∷◌, ◌++◌}
use Rattle.atomic_table.specs.Table.{Me}
use Rattle.ticket_log.specs.declared.view.View.{View}
use Rattle.ticket_log.specs.Orders.{longer}

-- a handle's view beside the slots of the table that it holds, of which there are none
abbrev pub Held : Type 0
Held = Me (Unit {0}) View

-- a handle that has seen this order
abbrev pub view_of : Bool → List ℕ → View
view_of draws order = record { order = order; older = []; draws = draws }

-- draw: the player is appended
abbrev pub after_draw : ℕ → View → View
after_draw player v = record { order = v.order ++ player ∷ []; older = v.older; draws = v.draws }

-- split: a new handle has seen the same order, and doesn't draw
abbrev pub copied : View → View
copied v = view_of false v.order

-- join: a handle takes in what another has seen. One that draws keeps its order, any other has the longer
-- of the two; what both had seen is kept as older orders.
abbrev pub joined : View → View → View
joined v w = record {
  order = if v.draws then v.order else longer v.order w.order;
  older = v.order ∷ w.order ∷ v.older ++ w.older;
  draws = v.draws;
}

-- what a join leaves of the handle that was taken in
abbrev pub spent : View
spent = view_of false []

-- load: the older orders are dropped
abbrev pub settled : View → View
settled v = view_of v.draws v.order
