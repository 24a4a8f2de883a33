-- What an error of a reader says of its text.
use Rattle.std.specs.Prelude.{◌≡◌, ℕ, Bool, true, false, Result, Err}
use Rattle.block_state.specs.declared.fault.StateFault.{StateFault}
use Rattle.block_state.specs.declared.fault.StateFault.TheVariants as states
use Rattle.block_state.specs.declared.term_fault.TermFault.{TermFault}
use Rattle.block_state.specs.declared.term_fault.TermFault.TheVariants as terms
use Rattle.command_syntax.specs.declared.fault.LineFault.{LineFault}
use Rattle.command_syntax.specs.declared.fault.LineFault.TheVariants.{Term}
use Rattle.command_syntax.specs.declared.fault.ScriptFault.{ScriptFault}
use Rattle.command_syntax.specs.declared.fault.ScriptFault.TheVariants.{Line, Memory}
use Rattle.command_syntax.specs.declared.stop.Stop.{Stop}
use Rattle.command_syntax.specs.declared.stop.Stop.TheVariants as stops

-- the fault is one of the text, and hides no want of memory
abbrev pub is_of_state : StateFault → Bool
is_of_state states.Memory = false
is_of_state _ = true

abbrev pub is_of_term : TermFault → Bool
is_of_term (terms.State at fault) = is_of_state fault
is_of_term terms.Memory = false
is_of_term _ = true

abbrev pub is_of_line : LineFault → Bool
is_of_line (Term fault) = is_of_term fault
is_of_line _ = true

-- a line reads as this fault
pub record IsLineFault {A : Type 0} (reading : Result A LineFault) (fault : LineFault) : Type 0 where
  pub is : reading ≡ Err fault
  pub of_text : is_of_line fault ≡ true

-- What a stop says of a part of a line that reads as this; want of memory says nothing.
abbrev pub IsStop : {A : Type 0} → Result A LineFault → Stop → Type 0
IsStop reading (stops.Fault fault) = IsLineFault reading fault
IsStop reading stops.Memory = Unit {0}

-- a script reads as this fault of a line
pub record IsFaultOfLine {A : Type 0} (reading : Result A ScriptFault) (number : ℕ) (fault : LineFault) : Type 0 where
  pub is : reading ≡ Err (Line number fault)
  pub of_text : is_of_line fault ≡ true

-- What an error of a script's reader says of bytes that read as this: they read as that fault, which hides no
-- want of memory. `Memory` alone says nothing of the bytes.
abbrev pub IsScriptFault : {A : Type 0} → Result A ScriptFault → ScriptFault → Type 0
IsScriptFault reading (Line number fault) = IsFaultOfLine reading number fault
IsScriptFault reading Memory = Unit {0}
IsScriptFault reading fault = reading ≡ Err fault
