-- What stands at a place of a list of positions and contents; None past its end.
use Rattle.std.specs.Prelude.{◌≡◌, ℕ, ◌+◌, ◌<◌, ◌≤◌, List, Option, Some, length, slice_get, option_map}
use Rattle.std.specs.Option.{option_and_then}
use Rattle.edit_terms.specs.declared.pos.Pos.{Pos}
use Rattle.edit_terms.specs.declared.stretch.Stretch.{Stretch}
use Rattle.edit_terms.specs.Area.{volume, position_of}
use Rattle.edit_terms.specs.StateText.{State}
use Rattle.edit_terms.specs.World.{EntityTags, BlockContent}

abbrev pub position_in : List (Pos × BlockContent) → ℕ → Option Pos
position_in cells i = option_map (λ c. c.0) (slice_get cells i)

abbrev pub content_in : List (Pos × BlockContent) → ℕ → Option BlockContent
content_in cells i = option_map (λ c. c.1) (slice_get cells i)

abbrev pub state_in : List (Pos × BlockContent) → ℕ → Option State
state_in cells i = option_map (λ c. c.state) (content_in cells i)

-- the entity there, if it has one
abbrev pub entity_in : List (Pos × BlockContent) → ℕ → Option EntityTags
entity_in cells i = option_and_then (λ c. c.entity) (content_in cells i)

-- so many positions from a place on have the content that stands there
abbrev pub IsSameFrom : List (Pos × BlockContent) → ℕ → ℕ → Type 0
IsSameFrom cells i count = (further : ℕ) → further < count → content_in cells (i + further) ≡ content_in cells i

-- The list goes on with a stretch from a place on: its cells from there, as many as the stretch counts, are the blocks
-- of the stretch's box from its start on in index order, and all of them have one content.
pub record IsStretch (cells : List (Pos × BlockContent)) (i : ℕ) (stretch : Stretch) : Type 0 where
  pub some : 0 < stretch.count
  pub within : i + stretch.count ≤ length cells
  pub fits : stretch.start + stretch.count ≤ volume stretch.part
  pub places : (further : ℕ) → further < stretch.count → position_in cells (i + further) ≡ Some (position_of stretch.part (stretch.start + further))
  pub same : IsSameFrom cells i stretch.count
