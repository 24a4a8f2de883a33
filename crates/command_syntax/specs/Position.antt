-- Positions of a script.
use Rattle.std.specs.Prelude.{ℕ, ℤ, if◌then◌else◌, List, [], ◌∷◌, Option, Some, Result, Ok, Err}
use Rattle.edit_terms.specs.declared.pos.Pos.{Pos}
use Rattle.edit_terms.specs.Area.{is_on_map}
use Rattle.edit_terms.specs.StateText.{comma, cut_at}
use Rattle.command_syntax.specs.Number.{number_of}
use Rattle.command_syntax.specs.declared.fault.LineFault.{LineFault}
use Rattle.command_syntax.specs.declared.fault.LineFault.TheVariants.{BadNumber, OutOfLimit}

-- the position of three numbers, if it is on the map
abbrev pub position_at : Option ℤ → Option ℤ → Option ℤ → Result Pos LineFault
position_at (Some x) (Some y) (Some z) =
    let p : Pos = record { x = x; y = y; z = z } in
    if is_on_map p then Ok p else Err OutOfLimit
position_at _ _ _ = Err BadNumber

-- the position of a word that was cut at its commas
abbrev pub position_from : List (List ℕ) → Result Pos LineFault
position_from (x ∷ y ∷ z ∷ []) = position_at (number_of x) (number_of y) (number_of z)
position_from _ = Err BadNumber

-- A position: three numbers with commas between, in the order x, y and z.
abbrev pub position_of : List ℕ → Result Pos LineFault
position_of word = position_from (cut_at comma word)
