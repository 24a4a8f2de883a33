-- Which pattern a text stands for, or its first fault (patterns of WorldEdit 7, with limits of this project).
use Rattle.std.specs.Prelude.{ℕ, ◌+◌, false, nat_le, if◌then◌else◌, List, take, drop, map, Option, Some, None, Result, Err}
use Rattle.std.specs.List.{enumerate_from}
use Rattle.edit_terms.specs.declared.pattern.Entry.{Entry}
use Rattle.edit_terms.specs.declared.pattern.Pattern.{Pattern}
use Rattle.edit_terms.specs.StateText.{comma}
use Rattle.block_state.specs.declared.term_fault.TermFault.{TermFault}
use Rattle.block_state.specs.declared.term_fault.TermFault.TheVariants.{Weight, TooManyEntries}
use Rattle.term_text.specs.Pieces.{Piece, pieces_at, place_from}
use Rattle.term_text.specs.Verdict.{verdict_map, all_or_first}
use Rattle.term_text.specs.Digits.{natural_between}
use Rattle.pattern_syntax.specs.Value.{value_reading}

-- a weight: one to seven digits that stand for 1 to 1,000,000
abbrev pub weight_of : List ℕ → Option ℕ
weight_of digits = natural_between 7 1 1000000 digits

-- the byte between a weight and its value: a percent sign
abbrev pub percent : ℕ
percent = 37

-- the entry of this weight, and of the value of a text that begins at this place
abbrev pub entry_by : Option ℕ → ℕ → ℕ → List ℕ → Result Entry TermFault
entry_by None start at text = Err (Weight start)
entry_by (Some weight) start at text = verdict_map (λ value. record { weight = weight; value = value }) (value_reading at text)

-- a piece whose first percent sign outside brackets is at this place of it
abbrev pub entry_cut : Piece → Option ℕ → Result Entry TermFault
entry_cut p None = entry_by (Some 1) p.at p.at p.bytes
entry_cut p (Some end) = entry_by (weight_of (take end p.bytes)) p.at (p.at + end + 1) (drop (end + 1) p.bytes)

-- The entry of a piece: a value, or a weight, a percent sign and a value.
abbrev pub entry_reading : Piece → Result Entry TermFault
entry_reading p = entry_cut p (place_from false percent p.bytes)

-- the verdict on a piece behind so many others; there may be 32
abbrev pub judged : ℕ × Piece → Result Entry TermFault
judged n = if nat_le 32 n.0 then Err (TooManyEntries (n.1).at) else entry_reading n.1

-- the entries of these pieces, each judged alone, or the first fault from the left
abbrev pub entries_reading : List Piece → Result (List Entry) TermFault
entries_reading pieces = all_or_first (map judged (enumerate_from 0 pieces))

-- The pattern that a text stands for, entries with commas between, or its first fault.
abbrev pub pattern_of_text : List ℕ → Result Pattern TermFault
pattern_of_text text = verdict_map (λ entries. record { entries = entries }) (entries_reading (pieces_at comma 0 text))
