-- The table from kinds to the numbers of a section.
use Rattle.std.specs.Prelude.{◌≡◌, ℕ, List, get_or, Option, Some, None, slice_get}
use Rattle.std.specs.List.{IsDistinct}
use Rattle.edit_terms.specs.StateText.{State}
use Rattle.edit_terms.specs.Same.{same_state}
use Rattle.chunk_sections.specs.Section.{kind_of}

-- A kind's number in the table is the place of its state in the palette. The table may be shorter than the kinds are.
pub record IsTable (kinds palette : List State) (table : List (Option ℕ)) : Type 0 where
  pub unique : IsDistinct same_state palette
  pub right : (kind number : ℕ) → get_or table kind None ≡ Some number → slice_get palette number ≡ Some (kind_of kinds kind)
