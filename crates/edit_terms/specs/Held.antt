-- The two forms of a block state show the same: what they own, or what they share.
use Rattle.edit_terms.specs.StateText.{State}
use Rattle.edit_terms.specs.declared.block_state.Parts.{Parts}
use Rattle.edit_terms.specs.declared.block_state.Held.{Held}
use Rattle.edit_terms.specs.declared.block_state.Held.TheVariants.{Own, Shared}
use Rattle.std.specs.Arc.{arc_value}

-- a state of these parts
abbrev pub state_of : Parts → State
state_of parts = record { name = parts.name; properties = parts.properties }

abbrev pub state_held : Held → State
state_held (Own parts) = state_of parts
state_held (Shared parts) = state_of (arc_value parts)
