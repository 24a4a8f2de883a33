-- The rule of the log: one order, of which every handle has seen a prefix, and words that count its entries.
use Rattle.std.specs.Prelude.{◌≡◌, ℕ, ◌<◌, true, List, [], ◌∷◌, length, slice_index}
use mathlib.Core.List.{IsPrefix}
use mathlib.Core.Option.{some}
use lib.ListN.{get_elem?}
use Rattle.atomic_table.specs.Table.{State, Step}
use Rattle.edit_terms.specs.declared.script.Case.{Case}
use Rattle.run_terms.specs.Order.{turns_of, IsLegalOrder}
use Rattle.ticket_log.specs.declared.view.View.{View}
use Rattle.ticket_log.specs.Views.{Held, after_draw, settled}

-- each order of a list of orders is a prefix of this one
abbrev pub ArePrefixes : List (List ℕ) → List ℕ → Type 0
ArePrefixes [] order = Unit {0}
ArePrefixes (o ∷ os) order = IsPrefix o order × ArePrefixes os order

-- What a handle has seen is a prefix of the order, and its older orders are prefixes of that. If it draws it is
-- the drawer, and has seen the whole order.
pub record Fits (order : List ℕ) (drawer handle : ℕ) (v : View) : Type 0 where
  pub draws : v.draws ≡ true → (handle ≡ drawer) × (v.order ≡ order)
  pub seen : IsPrefix v.order order
  pub older : ArePrefixes v.older v.order

-- There is one legal order. Each word is the number of its player's entries, one handle draws and no other does, and
-- every handle fits the order.
pub record Kept (case : Case) (s : State (Unit {0}) View) : Type 0 where
  pub order : List ℕ
  pub legal : IsLegalOrder case.scripts order
  pub words : length s.words ≡ length case.scripts
  pub counts : (player : ℕ) → player < length case.scripts → slice_index s.words player ≡ turns_of player order
  pub drawer : ℕ
  pub draws : (v : View) × (get_elem? s.views drawer ≡ some v) × (v.draws ≡ true)
  pub views : (handle : ℕ) (v : View) → get_elem? s.views handle ≡ some v → Fits order drawer handle v

-- what a draw tells: the word's player is appended, and the number found is how often it stood there
pub record Drew (step : Step (Unit {0})) (before : Held) (found : ℕ) (after : Held) : Type 0 where
  pub view : after ≡ (after_draw step.word before.0, before.1)
  pub count : found ≡ turns_of step.word before.0.order

-- what a load tells: the older orders are prefixes of the order seen, and are dropped
pub record Learned (step : Step (Unit {0})) (before : Held) (found : ℕ) (after : Held) : Type 0 where
  pub view : after ≡ (settled before.0, before.1)
  pub prefixes : ArePrefixes before.0.older before.0.order
