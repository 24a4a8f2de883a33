-- What a canvas holds and shows.
use Rattle.std.specs.Prelude.{◌≡◌, ℕ, List, length, take}
use Rattle.edit_terms.specs.Area.{Area}
use Rattle.edit_terms.specs.World.{BlockContent, World}
use Rattle.plain_terms.specs.Shown.{world_shown}

-- a box, contents by number, and the number of each place's content
pub record Painting : Type 0 where
  pub area : Area
  pub kinds : List BlockContent
  pub cells : List ℕ

-- the world that it shows
abbrev pub shown : Painting → World
shown p = world_shown p.area p.kinds p.cells

-- contents keep their numbers; further ones may have got theirs
abbrev pub IsGrown : List BlockContent → List BlockContent → Type 0
IsGrown old new = take (length old) new ≡ old

-- the same world, though further contents may have got numbers
pub record IsSameWorld (old new : Painting) : Type 0 where
  pub area : new.area ≡ old.area
  pub grown : IsGrown old.kinds new.kinds
  pub world : shown new ≡ shown old
