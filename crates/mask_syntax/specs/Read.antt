-- What an error of a mask's reader says of the text.
use Rattle.std.specs.Prelude.{◌≡◌, Result, Err}
use Rattle.block_state.specs.declared.term_fault.TermFault.{TermFault}
use Rattle.block_state.specs.declared.term_fault.TermFault.TheVariants.{Empty, Unknown, Number, TooManyNoise}
use Rattle.term_text.specs.Part.{IsPartFault}

-- What an error says of a mask's text that reads as this: it reads as that fault, which is one of these or that of a
-- part, and hides no want of memory. `Memory` alone says nothing of the text.
abbrev pub IsMaskFault : {A : Type 0} → Result A TermFault → TermFault → Type 0
IsMaskFault reading (Empty at) = reading ≡ Err (Empty at)
IsMaskFault reading (Unknown at) = reading ≡ Err (Unknown at)
IsMaskFault reading (Number at) = reading ≡ Err (Number at)
IsMaskFault reading (TooManyNoise at) = reading ≡ Err (TooManyNoise at)
IsMaskFault reading fault = IsPartFault reading fault
