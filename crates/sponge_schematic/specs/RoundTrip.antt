-- Which worlds and tags a file gives back as they were written.
use Rattle.std.specs.Prelude.{◌≡◌, true, All, option_map}
use Rattle.edit_terms.specs.Area.{Area, is_world_box}
use Rattle.edit_terms.specs.StateText.{IsState}
use Rattle.edit_terms.specs.World.{World, IsWorld}
use Rattle.block_entities.specs.FileEntities.{AreFileEntities}
use Rattle.block_entities.specs.Gathering.{loose_of}
use Rattle.block_entities.specs.Spreading.{block_entities}
use Rattle.sponge_schematic.specs.Carried.{CarriedTags}
use Rattle.sponge_schematic.specs.Schematic.{element_of, others_of}

-- A world that a file can hold: its box is one of a world, each block of the box has a content, each state is one, and
-- each entity can stand in a file.
pub record IsFileWorld (w : World) : Type 0 where
  pub box : is_world_box w.area ≡ true
  pub whole : IsWorld w
  pub states : All (λ c. IsState c.state) w.contents
  pub entities : AreFileEntities w

-- Tags that can be carried beside the worlds of a box: the loose entries name no block of it, and none of the other
-- tags has a name that the writer uses itself.
pub record IsBeside (area : Area) (carried : CarriedTags) : Type 0 where
  pub loose : loose_of area carried.loose ≡ carried.loose
  pub others : others_of carried.others ≡ carried.others

-- What a file gives of the tags that were written into it beside a world: the same, but that the list BlockEntities is
-- there, with its element type, where it was written.
abbrev pub read_again : CarriedTags → World → CarriedTags
read_again carried w = record carried { element = option_map element_of (block_entities w carried.loose carried.element) }
