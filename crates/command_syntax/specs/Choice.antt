-- Words that are one of a few.
use Rattle.std.specs.Prelude.{ℕ, Bool, true, ◌||◌, if◌then◌else◌, List, Result, Ok, Err, codes, bytes_eq}
use Rattle.edit_terms.specs.declared.direction.Direction.{Direction}
use Rattle.edit_terms.specs.declared.direction.Direction.TheVariants.{North, South, East, West, Up, Down}
use Rattle.edit_terms.specs.declared.region.Kind.{Kind}
use Rattle.edit_terms.specs.declared.region.Kind.TheVariants.{Cuboid, Sphere, Cylinder}
use Rattle.command_syntax.specs.declared.fault.LineFault.{LineFault}
use Rattle.command_syntax.specs.declared.fault.LineFault.TheVariants.{BadDirection, BadOption}

-- the word is this one, or its first letter
abbrev pub is_or_begins : List ℕ → List ℕ → List ℕ → Bool
is_or_begins whole letter word = bytes_eq word whole || bytes_eq word letter

-- one of the six directions
abbrev pub direction_of : List ℕ → Result Direction LineFault
direction_of word =
    if is_or_begins (codes "north") (codes "n") word then Ok North
    else (if is_or_begins (codes "south") (codes "s") word then Ok South
    else (if is_or_begins (codes "east") (codes "e") word then Ok East
    else (if is_or_begins (codes "west") (codes "w") word then Ok West
    else (if is_or_begins (codes "up") (codes "u") word then Ok Up
    else (if is_or_begins (codes "down") (codes "d") word then Ok Down
    else Err BadDirection)))))

-- the shape of a selection
abbrev pub kind_of : List ℕ → Result Kind LineFault
kind_of word =
    if bytes_eq word (codes "cuboid") then Ok Cuboid
    else (if bytes_eq word (codes "sphere") then Ok Sphere
    else (if bytes_eq word (codes "cyl") then Ok Cylinder
    else Err BadOption))

-- the option of pasting: without air
abbrev pub skip_air_of : List ℕ → Result Bool LineFault
skip_air_of word = if bytes_eq word (codes "-a") then Ok true else Err BadOption
