-- What an error of a pattern's reader says of the text.
use Rattle.std.specs.Prelude.{◌≡◌, Result, Err}
use Rattle.block_state.specs.declared.term_fault.TermFault.{TermFault}
use Rattle.block_state.specs.declared.term_fault.TermFault.TheVariants.{Empty, Unknown, Weight, TooManyEntries}
use Rattle.term_text.specs.Part.{IsPartFault}

-- What an error says of a pattern's text that reads as this: it reads as that fault, which is one of these or that
-- of a part, and hides no want of memory. `Memory` alone says nothing of the text.
abbrev pub IsPatternFault : {A : Type 0} → Result A TermFault → TermFault → Type 0
IsPatternFault reading (Empty at) = reading ≡ Err (Empty at)
IsPatternFault reading (Unknown at) = reading ≡ Err (Unknown at)
IsPatternFault reading (Weight at) = reading ≡ Err (Weight at)
IsPatternFault reading (TooManyEntries at) = reading ≡ Err (TooManyEntries at)
IsPatternFault reading fault = IsPartFault reading fault
