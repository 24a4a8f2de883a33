-- Which leaf of a mask a text stands for, or its first fault.
use Rattle.std.specs.Prelude.{ℕ, Bool, ◌||◌, ◌==◌, if◌then◌else◌, List, [], ◌∷◌, map, Option, Some, None, Result, Ok, Err, codes, bytes_eq}
use Rattle.edit_terms.specs.declared.mask.Leaf.{Leaf}
use Rattle.edit_terms.specs.declared.mask.Leaf.TheVariants.{Noise, Existing, InSelection, Has, OneOf}
use Rattle.edit_terms.specs.StateText.{comma, opening, state_reading}
use Rattle.edit_terms.specs.StateText as text
use Rattle.block_state.specs.declared.term_fault.TermFault.{TermFault}
use Rattle.block_state.specs.declared.term_fault.TermFault.TheVariants.{Empty, Unknown, Number}
use Rattle.term_text.specs.Pieces.{Piece, pieces_at}
use Rattle.term_text.specs.Verdict.{verdict_map, all_or_first}
use Rattle.block_state.specs.Read.{properties_reading}
use Rattle.term_text.specs.Part.{at_place}
use Rattle.term_text.specs.Digits.{natural_between}

-- the number of a noise leaf: one to three digits that stand for 0 to 100
abbrev pub chance_of : List ℕ → Option ℕ
chance_of digits = natural_between 3 0 100 digits

-- a share of noise: the number behind the percent sign
abbrev pub noise_reading : ℕ → List ℕ → Result Leaf TermFault
noise_reading at digits = elim (chance_of digits) [
  | Some chance ↦ Ok (Noise chance)
  | None ↦ Err (Number at)
]

abbrev pub is_selection_word : List ℕ → Bool
is_selection_word word = bytes_eq word (codes "region") || bytes_eq word (codes "sel") || bytes_eq word (codes "selection")

-- a word behind the number sign
abbrev pub word_reading : ℕ → List ℕ → Result Leaf TermFault
word_reading at word =
    if bytes_eq word (codes "existing") then Ok Existing
    else (if is_selection_word word then Ok InSelection else Err (Unknown at))

-- properties in brackets behind the caret
abbrev pub has_reading : ℕ → List ℕ → Result Leaf TermFault
has_reading at [] = Err (Unknown at)
has_reading at (b ∷ rest) =
    if b == opening then verdict_map Has (at_place at (properties_reading rest)) else Err (Unknown at)

-- a member of a union
abbrev pub member_reading : Piece → Result text.State TermFault
member_reading p = elim p.bytes [
  | [] ↦ Err (Empty p.at)
  | b ∷ bytes ↦ if b == 35 then Err (Unknown p.at) else at_place p.at (state_reading (b ∷ bytes))
]

-- states with commas between
abbrev pub union_reading : ℕ → List ℕ → Result Leaf TermFault
union_reading at text = verdict_map OneOf (all_or_first (map member_reading (pieces_at comma at text)))

-- The leaf of a text that begins at this place, by its first byte: % # ^ or another.
abbrev pub leaf_reading : ℕ → List ℕ → Result Leaf TermFault
leaf_reading at [] = Err (Empty at)
leaf_reading at (b ∷ bytes) =
    if b == 37 then noise_reading at bytes
    else (if b == 35 then word_reading at bytes
    else (if b == 94 then has_reading at bytes
    else union_reading at (b ∷ bytes)))
