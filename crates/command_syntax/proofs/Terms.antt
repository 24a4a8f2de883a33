-- What the errors of masks, patterns and states say of a line.
use Rattle.std.proofs.Common.{ap, refl}
use Rattle.std.specs.Prelude.{Result}
use Rattle.block_state.specs.declared.term_fault.TermFault.{TermFault}
use Rattle.block_state.specs.declared.term_fault.TermFault.TheVariants.{Empty, Unknown, State, Number, Weight, TooManyNoise, TooManyEntries, Memory}
use Rattle.block_state.specs.declared.fault.StateFault.TheVariants as faults
use Rattle.mask_syntax.specs.Read.{IsMaskFault}
use Rattle.pattern_syntax.specs.Read.{IsPatternFault}
use Rattle.term_text.specs.Part.{IsPartFault}
use Rattle.term_text.specs.Verdict.{fault_map}
use Rattle.command_syntax.specs.declared.fault.LineFault.TheVariants.{Term}
use Rattle.command_syntax.specs.Stop.{stop_of}
use Rattle.command_syntax.specs.Read.{IsStop}

pub state_stops : {A : Type 0} (reading : Result A TermFault) (fault : TermFault) → IsPartFault reading fault → IsStop (fault_map Term reading) (stop_of fault)
state_stops reading (State at faults.BadName) h = record { is = ap (fault_map Term) h; of_text = refl }
state_stops reading (State at faults.BadProperty) h = record { is = ap (fault_map Term) h; of_text = refl }
state_stops reading (State at faults.RepeatedKey) h = record { is = ap (fault_map Term) h; of_text = refl }
state_stops reading (State at faults.TooManyProperties) h = record { is = ap (fault_map Term) h; of_text = refl }
state_stops reading (State at faults.Memory) h = absurd h
state_stops reading (Empty at) h = absurd h
state_stops reading (Unknown at) h = absurd h
state_stops reading (Number at) h = absurd h
state_stops reading (Weight at) h = absurd h
state_stops reading (TooManyNoise at) h = absurd h
state_stops reading (TooManyEntries at) h = absurd h
state_stops reading Memory h = tt

pub mask_stops : {A : Type 0} (reading : Result A TermFault) (fault : TermFault) → IsMaskFault reading fault → IsStop (fault_map Term reading) (stop_of fault)
mask_stops reading (State at fault) h = state_stops reading (State at fault) h
mask_stops reading (Empty at) h = record { is = ap (fault_map Term) h; of_text = refl }
mask_stops reading (Unknown at) h = record { is = ap (fault_map Term) h; of_text = refl }
mask_stops reading (Number at) h = record { is = ap (fault_map Term) h; of_text = refl }
mask_stops reading (Weight at) h = absurd h
mask_stops reading (TooManyNoise at) h = record { is = ap (fault_map Term) h; of_text = refl }
mask_stops reading (TooManyEntries at) h = absurd h
mask_stops reading Memory h = tt

pub pattern_stops : {A : Type 0} (reading : Result A TermFault) (fault : TermFault) → IsPatternFault reading fault → IsStop (fault_map Term reading) (stop_of fault)
pattern_stops reading (State at fault) h = state_stops reading (State at fault) h
pattern_stops reading (Empty at) h = record { is = ap (fault_map Term) h; of_text = refl }
pattern_stops reading (Unknown at) h = record { is = ap (fault_map Term) h; of_text = refl }
pattern_stops reading (Number at) h = absurd h
pattern_stops reading (Weight at) h = record { is = ap (fault_map Term) h; of_text = refl }
pattern_stops reading (TooManyNoise at) h = absurd h
pattern_stops reading (TooManyEntries at) h = record { is = ap (fault_map Term) h; of_text = refl }
pattern_stops reading Memory h = tt
