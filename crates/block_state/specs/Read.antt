-- What the answer of a reader says of its text, and which error stands for which fault of a state's text.
use Rattle.std.specs.Prelude.{◌≡◌, Result, Ok, Err, MatchResult, if◌then◌else◌, List, ℕ}
use Rattle.block_state.specs.declared.fault.StateFault.{StateFault}
use Rattle.block_state.specs.declared.fault.StateFault.TheVariants as faults
use Rattle.edit_terms.specs.StateText.{TextFault, BadName, BadProperty, RepeatedKey, TooManyProperties, opening, cut_at, is_block_name, listed_in, sorted_properties, with_namespace}

-- the error that stands for a fault
abbrev pub fault_of : TextFault → StateFault
fault_of BadName = faults.BadName
fault_of BadProperty = faults.BadProperty
fault_of RepeatedKey = faults.RepeatedKey
fault_of TooManyProperties = faults.TooManyProperties

-- What an error says of a text that reads as this: it reads as that fault. `Memory` says nothing of the text.
abbrev pub IsFault : {A : Type 0} → Result A TextFault → StateFault → Type 0
IsFault reading faults.BadName = reading ≡ Err BadName
IsFault reading faults.BadProperty = reading ≡ Err BadProperty
IsFault reading faults.RepeatedKey = reading ≡ Err RepeatedKey
IsFault reading faults.TooManyProperties = reading ≡ Err TooManyProperties
IsFault reading faults.Memory = Unit {0}

-- What a reader answers for a text that reads as this: what it read, in this view, or an error, which says this of
-- the reading. It serves the readers of terms and of scripts too.
abbrev pub Gives : {A B F E : Type 0} → (Result A F → E → Type 0) → (B → A) → Result A F → Result B E → Type 0
Gives Says view reading result = MatchResult result (λ x. reading ≡ Ok (view x)) (λ error. Says reading error)

-- the name that a text without brackets stands for, or its fault
abbrev pub name_reading : List ℕ → Result (List ℕ) TextFault
name_reading text = if is_block_name (with_namespace text) then Ok (with_namespace text) else Err BadName

-- listed properties by rising key
abbrev pub properties_listed : Result (List (List ℕ × List ℕ)) TextFault → Result (List (List ℕ × List ℕ)) TextFault
properties_listed (Ok listed) = Ok (sorted_properties listed)
properties_listed (Err fault) = Err fault

-- the properties of what stands behind the opening bracket, or the first fault
abbrev pub properties_reading : List ℕ → Result (List (List ℕ × List ℕ)) TextFault
properties_reading rest = properties_listed (listed_in (cut_at opening rest))
