-- Which value of a pattern a text stands for, or its first fault.
use Rattle.std.specs.Prelude.{ℕ, Bool, ◌||◌, ◌==◌, if◌then◌else◌, List, [], ◌∷◌, Result, Ok, Err, codes, bytes_eq}
use Rattle.std.specs.List.{list_any}
use Rattle.edit_terms.specs.declared.pattern.Value.{Value}
use Rattle.edit_terms.specs.declared.pattern.Value.TheVariants.{Fixed, Rename, Put, RenamePut, Clipboard}
use Rattle.edit_terms.specs.StateText.{opening, state_reading}
use Rattle.block_state.specs.Read.{name_reading, properties_reading}
use Rattle.block_state.specs.declared.term_fault.TermFault.{TermFault}
use Rattle.block_state.specs.declared.term_fault.TermFault.TheVariants.{Empty, Unknown}
use Rattle.term_text.specs.Verdict.{verdict_map}
use Rattle.term_text.specs.Part.{at_place}

abbrev pub has_opening : List ℕ → Bool
has_opening text = list_any (λ b. b == opening) text

-- a name behind the caret, with properties where there is a bracket
abbrev pub named_reading : ℕ → List ℕ → Result Value TermFault
named_reading at text =
    if has_opening text then verdict_map RenamePut (at_place at (state_reading text))
    else verdict_map Rename (at_place at (name_reading text))

-- what stands behind the caret
abbrev pub caret_reading : ℕ → List ℕ → Result Value TermFault
caret_reading at [] = Err (Unknown at)
caret_reading at (b ∷ bytes) =
    if b == opening then verdict_map Put (at_place at (properties_reading bytes)) else named_reading at (b ∷ bytes)

abbrev pub is_clipboard_word : List ℕ → Bool
is_clipboard_word word = bytes_eq word (codes "clipboard") || bytes_eq word (codes "copy")

-- a word behind the number sign
abbrev pub word_reading : ℕ → List ℕ → Result Value TermFault
word_reading at word = if is_clipboard_word word then Ok Clipboard else Err (Unknown at)

-- The value of a text that begins at this place, by its first byte: # ^ or another.
abbrev pub value_reading : ℕ → List ℕ → Result Value TermFault
value_reading at [] = Err (Empty at)
value_reading at (b ∷ bytes) =
    if b == 35 then word_reading at bytes
    else (if b == 94 then caret_reading at bytes
    else verdict_map Fixed (at_place at (state_reading (b ∷ bytes))))
