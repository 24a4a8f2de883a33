-- Positions whose coordinates may lie beyond 32 bits.
use Rattle.std.specs.Prelude.{◌≡◌, Bool, true, ◌&&◌, ℤ, pos, negsuc, int_le}
use Rattle.edit_terms.specs.declared.pos.Pos.{Pos}
use Rattle.edit_terms.specs.Area.{Area, is_from, holds}
use Rattle.plain_terms.specs.declared.place.Place.{Place}

-- the position that a place is
abbrev pub pos_of : Place → Pos
pos_of p = record { x = p.x; y = p.y; z = p.z }

-- a place may have this coordinate
abbrev pub is_near : ℤ → Bool
is_near v = int_le (negsuc 34359738367) v && int_le v (pos 34359738368)

-- the position is on the map
abbrev pub is_placed_on_map : Pos → Bool
is_placed_on_map p = is_from (negsuc 33554431) 67108864 p.x && is_from (negsuc 2047) 4096 p.y && is_from (negsuc 33554431) 67108864 p.z

-- this is the position, and a block of the box
pub record IsBlockOf (a : Area) (p q : Pos) : Type 0 where
  pub is : q ≡ p
  pub held : holds a q ≡ true
