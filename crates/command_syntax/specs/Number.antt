-- Numbers of a script.
use Rattle.std.specs.Prelude.{ℕ, ◌==◌, ◌&&◌, if◌then◌else◌, ℤ, pos, int_le, nat_abs, List, [], ◌∷◌, Option, Some, None, option_map, neg_ℤ, Result, Ok, Err}
use Rattle.term_text.specs.Digits.{natural_of}
use Rattle.term_text.specs.Verdict.{verdict_then}
use Rattle.command_syntax.specs.declared.fault.LineFault.{LineFault}
use Rattle.command_syntax.specs.declared.fault.LineFault.TheVariants.{BadNumber, OutOfLimit}

-- A number: an optional minus, and 1 to 10 digits; the first ones may be zeros.
abbrev pub number_of : List ℕ → Option ℤ
number_of [] = None
number_of (b ∷ bytes) = if b == 45 then option_map (λ n. neg_ℤ (pos n)) (natural_of 10 bytes)
    else option_map pos (natural_of 10 (b ∷ bytes))

-- a number from low to high, neither of which is negative
abbrev pub limited : ℕ → ℕ → ℤ → Result ℕ LineFault
limited low high n = if int_le (pos low) n && int_le n (pos high) then Ok (nat_abs n) else Err OutOfLimit

-- a word that is a number, or none
abbrev pub number_reading : List ℕ → Result ℤ LineFault
number_reading word = elim (number_of word) [
  | Some n ↦ Ok n
  | None ↦ Err BadNumber
]

-- a count of copies, blocks or edits
abbrev pub count_of : List ℕ → Result ℕ LineFault
count_of word = verdict_then (limited 1 1000) (number_reading word)

-- the radius of a ball or a cylinder
abbrev pub radius_of : List ℕ → Result ℕ LineFault
radius_of word = verdict_then (limited 0 1000) (number_reading word)

-- the height of a cylinder
abbrev pub height_of : List ℕ → Result ℕ LineFault
height_of word = verdict_then (limited 1 4096) (number_reading word)

-- the quarter turns of an angle in degrees
abbrev pub quarters_in : ℕ → Result ℕ LineFault
quarters_in angle = if angle == 90 then Ok 1 else (if angle == 180 then Ok 2 else (if angle == 270 then Ok 3 else Err OutOfLimit))

-- an angle: 90, 180 or 270
abbrev pub quarters_of : List ℕ → Result ℕ LineFault
quarters_of word = verdict_then quarters_in (verdict_then (limited 90 270) (number_reading word))
