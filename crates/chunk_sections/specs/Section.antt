-- A section of a chunk: up to sixteen layers of blocks, kept as distinct states and the number of each block's.
use Rattle.std.specs.Prelude.{◌≡◌, ℕ, ◌≤◌, List, length, map, get_or}
use Rattle.edit_terms.specs.StateText.{State, air}
use Rattle.edit_terms.specs.Same.{same_state}
use Rattle.block_palette.specs.Numbering.{distinct, numbers}
use Rattle.chunk_sections.specs.Packed.{PackedNumbers, words_of, least_width}

-- the state that the number of a kind stands for
abbrev pub kind_of : List State → ℕ → State
kind_of kinds kind = get_or kinds kind air

-- the states of blocks by their numbers
abbrev pub states_of : List State → List ℕ → List State
states_of kinds cells = map (kind_of kinds) cells

-- the distinct states of a section, by first appearance
abbrev pub section_kinds : List State → List State
section_kinds states = distinct same_state states

-- the number of each block's state among these
abbrev pub section_numbers : List State → List ℕ
section_numbers states = numbers same_state states

-- The words of a section: the numbers of its blocks, as wide as its distinct states ask for. A section of one state
-- has none.
abbrev pub section_words : List State → List ℕ
section_words states = words_of (least_width (length (section_kinds states))) (section_numbers states)

-- A section has exactly the states of its blocks, by first appearance, and packs their numbers as narrow as can be.
pub record IsSection (palette : List State) (cells : PackedNumbers) : Type 0 where
  pub kinds : palette ≡ section_kinds (states_of palette cells.numbers)
  pub numbered : cells.numbers ≡ section_numbers (states_of palette cells.numbers)
  pub narrow : cells.bits ≡ least_width (length palette)
  pub few : length cells.numbers ≤ 4096
