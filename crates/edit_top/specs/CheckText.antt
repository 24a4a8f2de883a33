-- The words of a check, and the text that tells what a world's file holds.
use Rattle.std.specs.Prelude.{◌≡◌, ℕ, List, [], ◌∷◌, ◌++◌, length, Option, Some, None, if◌then◌else◌, codes, decimal, bytes_eq}
use Rattle.std.specs.Fmt.{signed_decimal}
use Rattle.edit_terms.specs.declared.pos.Pos.{Pos}
use Rattle.edit_terms.specs.Area.{Area}
use Rattle.edit_terms.specs.World.{World}
use Rattle.state_counts.specs.Counts.{IsCensus}
use Rattle.edit_top.specs.Words.{FileNames}

-- the world's name in the words `check WORLD`, and nothing where they are other words
abbrev pub checked_by : List (List ℕ) → Option (List ℕ)
checked_by (call ∷ world ∷ []) = if bytes_eq call (codes "check") then Some world else None
checked_by _ = None

-- the files of a check: the world alone
abbrev pub world_alone : List ℕ → FileNames
world_alone name = record { world = name; out = []; scripts = [] }

-- the message where the words aren't `check WORLD`
abbrev pub check_usage_text : List ℕ
check_usage_text = codes "fault: usage: check WORLD\n"

-- WIDTHxHEIGHTxLENGTH
abbrev pub sizes_text : Area → List ℕ
sizes_text area = decimal area.width ++ codes "x" ++ decimal area.height ++ codes "x" ++ decimal area.length

-- X,Y,Z
abbrev pub place_text : Pos → List ℕ
place_text p = signed_decimal p.x ++ codes "," ++ signed_decimal p.y ++ codes "," ++ signed_decimal p.z

-- the text of a box whose blocks have so many states
abbrev pub check_text : Area → ℕ → List ℕ
check_text area states =
    codes "world " ++ sizes_text area ++ codes " at " ++ place_text area.least ++ codes "\nstates " ++ decimal states ++ codes "\ndone\n"

-- The text tells the box of a world and how many states its blocks have: as many as a census of the world lists.
pub record IsWorldText (w : World) (text : List ℕ) : Type 0 where
  pub census : List (List ℕ × ℕ)
  pub counts : IsCensus w census
  pub is : text ≡ check_text w.area (length census)
