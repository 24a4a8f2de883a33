-- Why a line's reading stops at a word.
use Rattle.block_state.specs.declared.term_fault.TermFault.{TermFault}
use Rattle.block_state.specs.declared.term_fault.TermFault.TheVariants.{Memory}
use Rattle.command_syntax.specs.declared.fault.LineFault.TheVariants.{Term}
use Rattle.command_syntax.specs.declared.stop.Stop.{Stop}
use Rattle.command_syntax.specs.declared.stop.Stop.TheVariants as stops

-- the stop for an error of a mask, a pattern or a state; want of memory is none of the line's faults
abbrev pub stop_of : TermFault → Stop
stop_of Memory = stops.Memory
stop_of fault = stops.Fault (Term fault)
