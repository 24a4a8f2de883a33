-- What reading a world's file promises beside what `schematic_of` says.
use Rattle.std.specs.Prelude.{◌+◌, ◌^◌, ◌<◌, length}
use Rattle.edit_terms.specs.Grid.{world_of}
use Rattle.edit_terms.specs.World as terms
use Rattle.block_entities.specs.FileEntities.{AreFileEntities, entity_count}
use Rattle.sponge_schematic.specs.declared.loaded.World.{World}
use Rattle.sponge_schematic.specs.Carried.{CarriedTags, Loaded}

-- what a file says beside its world, and its world
abbrev pub loaded_of : World → Loaded
loaded_of w = record { carried = w.carried; world = world_of w.grid }

-- A world whose entities a file can hold beside these tags: each can stand in a list, and with the loose entries they
-- are fewer than 2^31, as a list's count says.
pub record IsWritable (carried : CarriedTags) (w : terms.World) : Type 0 where
  pub entities : AreFileEntities w
  pub few : entity_count w + length carried.loose < 2 ^ 31
