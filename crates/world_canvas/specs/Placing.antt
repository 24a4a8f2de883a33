-- A grid's states and entities on a canvas.
use Rattle.std.specs.Prelude.{◌≡◌, ◌<◌, ℕ, if◌then◌else◌, ◌==◌, Option, Some, option_map}
use Rattle.edit_terms.specs.Grid.{GridParts, state_of_cell}
use Rattle.edit_terms.specs.declared.pos.Pos.{Pos}
use Rattle.edit_terms.specs.Area.{index_of, position_of, volume}
use Rattle.edit_terms.specs.World.{EntityTags, without_entity}
use Rattle.plain_terms.specs.Shown.{content_shown}
use Rattle.world_canvas.specs.Canvas.{Painting}

-- the entity at a place, with its position
abbrev pub entity_here : Painting → ℕ → Option (Pos × EntityTags)
entity_here p index = option_map (λ e. (position_of p.area index, e)) (content_shown p.kinds p.cells index).entity

-- a block got an entity; all other contents are as before
pub record IsPlaced (old new : Painting) (at : Pos) (entity : EntityTags) : Type 0 where
  pub area : new.area ≡ old.area
  pub contents : (i : ℕ) → i < volume old.area → content_shown new.kinds new.cells i ≡ (if i == index_of old.area at then record (content_shown old.kinds old.cells i) { entity = Some entity } else content_shown old.kinds old.cells i)

-- the canvas shows a grid's states, without its entities
pub record IsBare (g : GridParts) (p : Painting) : Type 0 where
  pub area : p.area ≡ g.area
  pub contents : (i : ℕ) → i < volume g.area → content_shown p.kinds p.cells i ≡ without_entity (state_of_cell g i)
