-- What an error of a palette entry's text says of the entry.
use Rattle.std.proofs.Common.{◌≡◌, ◌≢◌, ℕ, Result, Err, refl, ap}
use Rattle.edit_terms.specs.StateText.{State, TextFault}
use Rattle.block_state.specs.declared.fault.StateFault.{StateFault}
use Rattle.block_state.specs.declared.fault.StateFault.TheVariants as state_faults
use Rattle.block_state.specs.Read.{IsFault}
use Rattle.nbt_tags.specs.declared.fault.NbtFault.{NbtFault}
use Rattle.nbt_tags.specs.declared.fault.NbtFault.TheVariants as nbt_faults
use Rattle.nbt_tags.specs.declared.tag.Named.{Named}
use Rattle.nbt_tags.specs.Reading.{IsAnswer}
use Rattle.sponge_schematic.specs.Schematic.{from_nbt}
use Rattle.sponge_schematic.specs.declared.fault.WorldFault.TheVariants as faults
use Rattle.sponge_schematic.specs.Palette.{entry_state}

-- a text that is read with a fault is refused with it
pub state_refused : (index : ℕ) (reading : Result State TextFault) (fault : StateFault) → fault ≢ state_faults.Memory → IsFault reading fault → entry_state index reading ≡ Err (faults.BadState index fault)
state_refused index reading state_faults.BadName n h = ap (entry_state index) h
state_refused index reading state_faults.BadProperty n h = ap (entry_state index) h
state_refused index reading state_faults.RepeatedKey n h = ap (entry_state index) h
state_refused index reading state_faults.TooManyProperties n h = ap (entry_state index) h
state_refused index reading state_faults.Memory n h = absurd (n refl)

-- bytes that are read with a fault are refused with it
pub nbt_refused : (reading : Result Named NbtFault) (fault : NbtFault) → fault ≢ nbt_faults.Memory → IsAnswer (Err fault) reading → from_nbt reading ≡ Err (faults.Nbt fault)
nbt_refused reading (nbt_faults.Short at) n h = ap from_nbt h
nbt_refused reading (nbt_faults.BadType at) n h = ap from_nbt h
nbt_refused reading (nbt_faults.BadCount at) n h = ap from_nbt h
nbt_refused reading (nbt_faults.Duplicate at) n h = ap from_nbt h
nbt_refused reading (nbt_faults.Deep at) n h = ap from_nbt h
nbt_refused reading (nbt_faults.Trailing at) n h = ap from_nbt h
nbt_refused reading nbt_faults.Memory n h = absurd (n refl)
