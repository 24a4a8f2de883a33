-- Words that are masks, patterns or block states.
use Rattle.std.specs.Prelude.{ℕ, List, [], ◌∷◌, Result}
use Rattle.edit_terms.specs.declared.mask.Mask.{Mask}
use Rattle.edit_terms.specs.declared.mask.Leaf.TheVariants.{Existing}
use Rattle.edit_terms.specs.declared.pattern.Pattern.{Pattern}
use Rattle.edit_terms.specs.StateText.{State, state_reading}
use Rattle.mask_syntax.specs.Mask.{mask_of_text}
use Rattle.pattern_syntax.specs.Pattern.{pattern_of_text}
use Rattle.term_text.specs.Part.{at_place}
use Rattle.term_text.specs.Verdict.{fault_map}
use Rattle.command_syntax.specs.declared.fault.LineFault.{LineFault}
use Rattle.command_syntax.specs.declared.fault.LineFault.TheVariants.{Term}

-- a mask
abbrev pub mask_of : List ℕ → Result Mask LineFault
mask_of word = fault_map Term (mask_of_text word)

-- a pattern
abbrev pub pattern_of : List ℕ → Result Pattern LineFault
pattern_of word = fault_map Term (pattern_of_text word)

-- a block state alone; its fault's place is the word's start
abbrev pub state_of : List ℕ → Result State LineFault
state_of word = fault_map Term (at_place 0 (state_reading word))

-- the mask #existing: any block but air
abbrev pub existing : Mask
existing = record { terms = record { signs = []; leaf = Existing } ∷ [] }
