-- What the text of a state, a name or properties says as a part of a term.
use Rattle.std.specs.Prelude.{◌≡◌, ℕ, Result, Ok, Err}
use Rattle.edit_terms.specs.StateText.{TextFault}
use Rattle.block_state.specs.Read.{fault_of}
use Rattle.block_state.specs.declared.term_fault.TermFault.{TermFault}
use Rattle.block_state.specs.declared.term_fault.TermFault.TheVariants.{State, Memory}
use Rattle.block_state.specs.declared.fault.StateFault.{StateFault}
use Rattle.block_state.specs.declared.fault.StateFault.TheVariants as faults

-- a verdict on the text of a state, a name or properties, whose part of the term begins at this place
abbrev pub at_place : {A : Type 0} → ℕ → Result A TextFault → Result A TermFault
at_place at (Ok x) = Ok x
at_place at (Err fault) = Err (State at (fault_of fault))

-- the error that says so; want of memory has no place
abbrev pub error_at : ℕ → StateFault → TermFault
error_at at faults.Memory = Memory
error_at at fault = State at fault

-- What an error says of a part that reads as this: it reads as that fault of a state, which hides no want of memory.
-- `Memory` says nothing of the text.
abbrev pub IsPartFault : {A : Type 0} → Result A TermFault → TermFault → Type 0
IsPartFault reading (State at faults.Memory) = ⊥
IsPartFault reading (State at fault) = reading ≡ Err (State at fault)
IsPartFault reading Memory = Unit {0}
IsPartFault reading _ = ⊥
