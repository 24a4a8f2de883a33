-- How the drill's grid numbers its states.
use Rattle.std.specs.Prelude.{ℕ, if◌then◌else◌, pos, int_lt}
use Rattle.edit_terms.specs.declared.pos.Pos.{Pos}

-- the number of the state at a position, from the ground up: stone, dirt, grass, air
abbrev pub ground_number : Pos → ℕ
ground_number p =
    if int_lt p.y (pos 8) then 0
    else (if int_lt p.y (pos 12) then 1
    else (if int_lt p.y (pos 13) then 2 else 3))
