-- What a schematic says beside its world, and what becomes of it.
use Rattle.std.specs.Prelude.{ℕ, ℤ, List, [], Option, None}
use Rattle.nbt_tags.specs.declared.tag.Tag.{Tag}
use Rattle.nbt_tags.specs.declared.tag.Named.{Named}
use Rattle.edit_terms.specs.World.{World}

-- What a file says beside its world: the version of the game's data; where the list BlockEntities was there, its
-- element type; its entries that name no block of the box, in their order; and the other tags of the root, in
-- their order.
pub record CarriedTags : Type 0 where
  pub data_version : ℤ
  pub element : Option ℕ
  pub loose : List Tag
  pub others : List Named

-- the version alone, as a new file has it
abbrev pub bare_tags : ℤ → CarriedTags
bare_tags data_version = record { data_version = data_version; element = None; loose = []; others = [] }

-- what a file gives: what it says beside its world, and its world
pub record Loaded : Type 0 where
  pub carried : CarriedTags
  pub world : World
