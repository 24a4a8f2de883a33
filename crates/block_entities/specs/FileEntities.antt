-- Which entities and loose entries can stand in a file.
use Rattle.std.specs.Prelude.{◌≡◌, ℕ, ◌-◌, ◌++◌, ◌∷◌, [], List, pos, All, IfSome, is_some, count_by, codes}
use Rattle.std.specs.Option.{unwrap_or}
use Rattle.edit_terms.specs.declared.pos.Pos.{Pos}
use Rattle.edit_terms.specs.World.{EntityTags, World}
use Rattle.nbt_tags.specs.declared.tag.Tag.{Tag}
use Rattle.nbt_tags.specs.declared.tag.Tag.TheVariants as tags
use Rattle.nbt_tags.specs.declared.tag.Named.{Named}
use Rattle.nbt_tags.specs.Reading.{row_spelled, named}
use Rattle.nbt_tags.specs.Spelling.{max_depth}
use Rattle.nbt_tags.specs.WellFormed.{IsSoundTag, IsSoundItem, IsWellFormedRow}
use Rattle.nbt_tags.specs.Written.{written_row}

-- An entry: a compound that is well formed inside a list inside the root.
abbrev pub IsEntry : Tag → Type 0
IsEntry entry = IsSoundItem (IsSoundTag (max_depth - 2)) 10 entry

-- The named tags that bytes spell inside an entry, whose depth is 3. Bytes that spell none stand for no tags.
abbrev pub tags_of : List ℕ → List Named
tags_of bytes = unwrap_or (row_spelled 3 bytes) []

-- the tag that says where a block stands
abbrev pub pos_tag : Pos → Named
pos_tag p = named (codes "Pos") (tags.IntArray (p.x ∷ p.y ∷ p.z ∷ []))

abbrev pub origin : Pos
origin = record { x = pos 0; y = pos 0; z = pos 0 }

-- the named tags of an entity's entry, where its block stands so far from the least corner
abbrev pub row_of_entity : EntityTags → Pos → List Named
row_of_entity e local = tags_of e.before ++ pos_tag local ∷ tags_of e.after

-- An entity that files can hold: its two lists are the written spellings of named tags, and these make one
-- compound that is well formed as an entry, with Pos between them.
pub record IsFileEntity (e : EntityTags) : Type 0 where
  pub before : written_row (tags_of e.before) ≡ e.before
  pub after : written_row (tags_of e.after) ≡ e.after
  pub sound : IsWellFormedRow 3 (row_of_entity e origin)

-- Each entity of the world is one that files can hold.
abbrev pub AreFileEntities : World → Type 0
AreFileEntities w = All (λ c. IfSome c.entity IsFileEntity) w.contents

-- how many blocks of the world have an entity
abbrev pub entity_count : World → ℕ
entity_count w = count_by (λ c. is_some c.entity) w.contents
