-- What a list of contents and a number for each block of a box show.
use Rattle.std.specs.Prelude.{◌≡◌, ℕ, ◌<◌, true, List, length, map, get_or, All}
use Rattle.std.specs.List.{range_with_len}
use Rattle.edit_terms.specs.declared.pos.Pos.{Pos}
use Rattle.edit_terms.specs.Area.{Area, holds, volume}
use Rattle.edit_terms.specs.World.{BlockContent, World, air_content, content_at}

-- the content at a place of the box's list: its number's
abbrev pub content_shown : List BlockContent → List ℕ → ℕ → BlockContent
content_shown kinds cells index = get_or kinds (get_or cells index 0) air_content

-- the world that the numbers show
abbrev pub world_shown : Area → List BlockContent → List ℕ → World
world_shown area kinds cells = record { area = area; contents = map (content_shown kinds cells) (range_with_len 0 (volume area)) }

-- each place has a number, and each number names a content
pub record IsNumbered (area : Area) (kinds : List BlockContent) (cells : List ℕ) : Type 0 where
  pub whole : length cells ≡ volume area
  pub within : All (λ n. n < length kinds) cells

-- the position is in the box, and this is its content
pub record StandsAt (w : World) (p : Pos) (c : BlockContent) : Type 0 where
  pub held : holds w.area p ≡ true
  pub is : c ≡ content_at w p
