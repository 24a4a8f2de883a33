-- The positions beside a position.
use Rattle.std.specs.Prelude.{List, [], ◌∷◌, ℤ, pos, ◌+ℤ◌, ◌-ℤ◌}
use Rattle.edit_terms.specs.declared.pos.Pos.{Pos}
use Rattle.edit_terms.specs.declared.direction.Direction.{Direction}
use Rattle.edit_terms.specs.declared.direction.Direction.TheVariants.{North, South, East, West, Up, Down}

-- The position so many blocks away in a direction: north is -z, east +x, up +y.
abbrev pub away : Direction → ℤ → Pos → Pos
away North n p = record p { z = p.z -ℤ n }
away South n p = record p { z = p.z +ℤ n }
away East n p = record p { x = p.x +ℤ n }
away West n p = record p { x = p.x -ℤ n }
away Up n p = record p { y = p.y +ℤ n }
away Down n p = record p { y = p.y -ℤ n }

-- the next position in a direction
abbrev pub neighbour : Direction → Pos → Pos
neighbour to p = away to (pos 1) p

-- the directions of the horizontal neighbours
abbrev pub horizontal : List Direction
horizontal = North ∷ South ∷ East ∷ West ∷ []

-- the directions of all six neighbours
abbrev pub directions : List Direction
directions = Up ∷ Down ∷ horizontal
