-- The table from a grid's kinds to the palette of its file.
use Rattle.std.specs.Prelude.{◌≡◌, ℕ, List, length, get_or, Option, Some, None, slice_get}
use Rattle.std.specs.List.{IsDistinct}
use Rattle.edit_terms.specs.StateText.{State, air}
use Rattle.edit_terms.specs.Same.{same_state}

-- The table has a place for each kind, and a kind's number there is the place of its state in the palette.
pub record IsTable (kinds palette : List State) (table : List (Option ℕ)) : Type 0 where
  pub unique : IsDistinct same_state palette
  pub long : length table ≡ length kinds
  pub right : (kind number : ℕ) → get_or table kind None ≡ Some number → slice_get palette number ≡ Some (get_or kinds kind air)

-- the states that numbers of kinds stand for
abbrev pub kind_of : List State → ℕ → State
kind_of kinds kind = get_or kinds kind air
