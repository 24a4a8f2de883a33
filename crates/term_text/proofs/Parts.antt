-- What the error of a state, a name or properties says of them as a part of a term.
use Rattle.std.proofs.Common.{ℕ, ap}
use Rattle.std.specs.Prelude.{Result}
use Rattle.edit_terms.specs.StateText.{TextFault}
use Rattle.block_state.specs.declared.fault.StateFault.{StateFault}
use Rattle.block_state.specs.declared.fault.StateFault.TheVariants as faults
use Rattle.block_state.specs.Read.{IsFault}
use Rattle.term_text.specs.Part.{IsPartFault, at_place, error_at}

-- an error of a part is one of the term, at the part's place
pub fault_at : {A : Type 0} (at : ℕ) (reading : Result A TextFault) (fault : StateFault) → IsFault reading fault → IsPartFault (at_place at reading) (error_at at fault)
fault_at at reading faults.BadName h = ap (at_place at) h
fault_at at reading faults.BadProperty h = ap (at_place at) h
fault_at at reading faults.RepeatedKey h = ap (at_place at) h
fault_at at reading faults.TooManyProperties h = ap (at_place at) h
fault_at at reading faults.Memory h = tt
