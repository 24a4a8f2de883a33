-- The palette of a schematic: entries that are named by state texts and hold numbers.
use Rattle.std.specs.Prelude.{ℕ, ◌+◌, ℤ, List, [], ◌∷◌, Result, Ok, Err}
use Rattle.edit_terms.specs.StateText.{State, TextFault, state_reading}
use Rattle.block_state.specs.Read.{fault_of}
use Rattle.nbt_tags.specs.declared.tag.Named.{Named}
use Rattle.nbt_tags.specs.Spelling.{name_of, tag_of}
use Rattle.sponge_schematic.specs.declared.fault.Field.TheVariants as fields
use Rattle.sponge_schematic.specs.declared.fault.WorldFault.{WorldFault}
use Rattle.sponge_schematic.specs.declared.fault.WorldFault.TheVariants as faults
use Rattle.sponge_schematic.specs.Fields.{◌>>=◌, required, int_of, row_of}

-- the numbers of the entries, which may be any, and their states; two entries may have one number or one state
pub record Entries : Type 0 where
  pub numbers : List ℤ
  pub states : List State

-- the state that was read from the name of the entry at a place, or the fault of the text
abbrev pub entry_state : ℕ → Result State TextFault → Result State WorldFault
entry_state index (Ok state) = Ok state
entry_state index (Err fault) = Err (faults.BadState index (fault_of fault))

-- the entry at a place: an Int, and then the text that names it
unfoldable pub entry_at : ℕ → Named → Result (ℤ × State) WorldFault
entry_at index entry = do
  number ← int_of fields.Palette (tag_of entry)
  state ← entry_state index (state_reading (name_of entry))
  Ok (number, state)

-- an entry before others
abbrev pub with_entry_first : ℤ × State → Entries → Entries
with_entry_first entry others = record { numbers = entry.0 ∷ others.numbers; states = entry.1 ∷ others.states }

-- the entries from that place on, in file order
unfoldable pub entries_from : ℕ → List Named → Result Entries WorldFault
entries_from index [] = Ok (record { numbers = []; states = [] })
entries_from index (entry ∷ entries) = do
  first ← entry_at index entry
  others ← entries_from (index + 1) entries
  Ok (with_entry_first first others)

-- the palette, a Compound
unfoldable pub palette_of : List Named → Result Entries WorldFault
palette_of row = do
  tag ← required fields.Palette row
  entries ← row_of fields.Palette tag
  entries_from 0 entries
