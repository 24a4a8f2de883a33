-- How a grid keeps a world: its distinct or repeated states, for each position the number of its state, and
-- the entities by position.
use Rattle.std.specs.Prelude.{◌≡◌, ℕ, ◌+◌, Bool, true, ◌&&◌, ◌==◌, nat_le, nat_lt, List, [], ◌∷◌, length, map, get_or, Option, option_map}
use Rattle.std.specs.List.{list_all, find, range_with_len}
use Rattle.std.specs.Ordering.{int_eq}
use Rattle.edit_terms.specs.declared.pos.Pos.{Pos}
use Rattle.edit_terms.specs.Area.{Area, holds, index_of, position_of, volume}
use Rattle.edit_terms.specs.StateText.{State, air}
use Rattle.edit_terms.specs.World.{EntityTags, BlockContent, World}

-- What contracts see of a grid: its box, states by number, the number of each position's state in index
-- order, and the entities.
pub record GridParts : Type 0 where
  pub area : Area
  pub kinds : List State
  pub cells : List ℕ
  pub entities : List (Pos × EntityTags)

-- the two are one position
abbrev pub is_same_pos : Pos → Pos → Bool
is_same_pos p q = int_eq p.x q.x && int_eq p.y q.y && int_eq p.z q.z

-- the entity listed for a position
abbrev pub entity_of : List (Pos × EntityTags) → Pos → Option EntityTags
entity_of entities p = option_map (λ e. e.1) (find (λ e. is_same_pos e.0 p) entities)

-- the state at a place of the box's list
abbrev pub state_of_cell : GridParts → ℕ → State
state_of_cell g index = get_or g.kinds (get_or g.cells index 0) air

-- the content at a place of the box's list
abbrev pub content_of_cell : GridParts → ℕ → BlockContent
content_of_cell g index = record { state = state_of_cell g index; entity = entity_of g.entities (position_of g.area index) }

-- the world that a grid keeps
abbrev pub world_of : GridParts → World
world_of g = record { area = g.area; contents = map (content_of_cell g) (range_with_len 0 (volume g.area)) }

-- each position has a number, and each number names a state
abbrev pub is_numbered : Area → List State → List ℕ → Bool
is_numbered area kinds cells = length cells == volume area && list_all (λ n. nat_lt n (length kinds)) cells

-- the positions are of the box, and rise in index order from this place on
abbrev pub is_rising_from : Area → ℕ → List (Pos × EntityTags) → Bool
is_rising_from area least [] = true
is_rising_from area least (e ∷ es) =
    holds area e.0 && nat_le least (index_of area e.0) && is_rising_from area (index_of area e.0 + 1) es

-- a grid keeps a number for each position and entities in index order
pub record IsGrid (g : GridParts) : Type 0 where
  pub numbered : is_numbered g.area g.kinds g.cells ≡ true
  pub rising : is_rising_from g.area 0 g.entities ≡ true
