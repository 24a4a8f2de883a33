-- What the reader keeps of the root's named tags.
use Rattle.std.specs.Prelude.{◌≡◌, ℕ, ◌+◌, ◌^◌, ◌<◌, ◌≤◌, true, List, length, map, All}
use Rattle.std.specs.Option.{ForSome}
use Rattle.edit_terms.specs.declared.pos.Pos.{Pos}
use Rattle.edit_terms.specs.Area.{Area, volume, position_of}
use Rattle.edit_terms.specs.Grid.{is_rising_from, entity_of}
use Rattle.edit_terms.specs.World.{EntityTags}
use Rattle.nbt_tags.specs.declared.tag.Tag.{Tag}
use Rattle.block_entities.specs.Gathering.{entity_at, loose_of}
use Rattle.block_entities.specs.FileEntities.{IsEntry, IsFileEntity}
use Rattle.sponge_schematic.specs.Carried.{CarriedTags}

-- Tags that can be written again beside a world: each loose entry can stand in the list BlockEntities, and the list's
-- element type is at most 12.
pub record IsKept (c : CarriedTags) : Type 0 where
  pub loose : All IsEntry c.loose
  pub element : ForSome c.element (λ byte. byte ≤ 12)

-- What was gathered from the entries of BlockEntities: entities that stand in index order, each block's as the entries
-- give it; and the loose entries. They can be written again, and are no more than a list counts.
pub record IsGathered (area : Area) (entries : List Tag) (entities : List (Pos × EntityTags)) (loose : List Tag) : Type 0 where
  pub given : (index : ℕ) → index < volume area → entity_of entities (position_of area index) ≡ entity_at area entries index
  pub rising : is_rising_from area 0 entities ≡ true
  pub rest : loose ≡ loose_of area entries
  pub good : All IsFileEntity (map (λ e. e.1) entities)
  pub sound : All IsEntry loose
  pub few : length entities + length loose < 2 ^ 31
