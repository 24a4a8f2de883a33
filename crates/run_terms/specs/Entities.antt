-- Whose entities stand in the worlds of a run: commands move, copy and drop them, and make none.
use Rattle.std.specs.Prelude.{◌≡◌, ℕ, ◌<◌, List, Some}
use Rattle.edit_terms.specs.Area.{volume}
use Rattle.edit_terms.specs.World.{EntityTags, World}
use Rattle.run_terms.specs.Change.{content_of}
use Rattle.run_terms.specs.Workload.{Workload}
use Rattle.run_terms.specs.Fold.{world_after}

-- the entity stands at a position of the world's box, here by its place in the box's list
pub record HasEntity (w : World) (entity : EntityTags) : Type 0 where
  pub index : ℕ
  pub within : index < volume w.area
  pub stands : (content_of w index).entity ≡ Some entity

-- each entity of the world is one of the other
abbrev pub HasOnlyEntitiesOf : World → World → Type 0
HasOnlyEntitiesOf other w = (entity : EntityTags) → HasEntity w entity → HasEntity other entity

-- after each ticket, each entity is one of the opening world
abbrev pub EntitiesComeFromTheOpeningWorld : Workload → List ℕ → Type 0
EntitiesComeFromTheOpeningWorld case order = (ticket : ℕ) → HasOnlyEntitiesOf case.opening (world_after case order ticket)
