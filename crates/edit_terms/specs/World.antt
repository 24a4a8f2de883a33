-- A world: a box and what stands at each of its positions; outside the box is air.
use Rattle.std.specs.Prelude.{◌≡◌, ℕ, if◌then◌else◌, List, length, get_or, Option, None}
use Rattle.edit_terms.specs.declared.pos.Pos.{Pos}
use Rattle.edit_terms.specs.Area.{Area, holds, index_of, volume}
use Rattle.edit_terms.specs.StateText.{State, air}

-- A block entity, by the spellings of its named tags before and after the place of the tag Pos.
pub record EntityTags : Type 0 where
  pub before : List ℕ
  pub after : List ℕ

-- What stands at a position: a block state and perhaps an entity.
pub record BlockContent : Type 0 where
  pub state : State
  pub entity : Option EntityTags

-- a state without an entity
abbrev pub without_entity : State → BlockContent
without_entity s = record { state = s; entity = None }

-- air without properties and without an entity
abbrev pub air_content : BlockContent
air_content = without_entity air

-- A world: its box, and the contents of its positions in index order, as many as its volume.
pub record World : Type 0 where
  pub area : Area
  pub contents : List BlockContent

-- each position of the box has its content
abbrev pub IsWorld : World → Type 0
IsWorld w = length w.contents ≡ volume w.area

-- the content at a position; outside the box a read gives air
abbrev pub content_at : World → Pos → BlockContent
content_at w p = if holds w.area p then get_or w.contents (index_of w.area p) air_content else air_content

abbrev pub state_at : World → Pos → State
state_at w p = (content_at w p).state
