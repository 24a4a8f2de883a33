-- The words of a line. Its quotes cut it into texts that stand outside and inside quotes by turns. Outside, a
-- blank is a gap between words, and any other byte a part of a word; what stands inside quotes is one part,
-- even where it is empty. So a word is what stands between gaps, with its parts joined.
use Rattle.std.specs.Prelude.{ℕ, ◌≤◌, Bool, true, false, if◌then◌else◌, List, [], ◌∷◌, ◌++◌, length, map, filter, flat_map, Result, Ok, Err, All}
use Rattle.std.specs.List.{slice_split}
use Rattle.edit_terms.specs.StateText.{cut_at}
use Rattle.command_syntax.specs.Text.{is_blank, quote}
use Rattle.term_text.specs.Verdict.{verdict_map}
use Rattle.command_syntax.specs.declared.fault.LineFault.{LineFault}
use Rattle.command_syntax.specs.declared.fault.LineFault.TheVariants.{OpenQuote}

-- what a line consists of: gaps between words, and parts of words
pub data Mark : Type 0 where
  Gap : Mark
  Part : List ℕ → Mark

-- a byte outside quotes
abbrev pub mark_of : ℕ → Mark
mark_of b = if is_blank b then Gap else Part (b ∷ [])

-- the gaps and parts of the texts between a line's quotes, the first of which stands outside; a text inside,
-- behind which no other stands, began with a quote that has no end
abbrev pub marks_of : List (List ℕ) → Result (List Mark) LineFault
marks_of [] = Err OpenQuote
marks_of (outside ∷ []) = Ok (map mark_of outside)
marks_of (outside ∷ inside ∷ texts) = verdict_map (λ marks. map mark_of outside ++ Part inside ∷ marks) (marks_of texts)

-- there is a mark
abbrev pub has_some : List Mark → Bool
has_some [] = false
has_some (_ ∷ _) = true

-- the mark is a gap
abbrev pub is_gap : Mark → Bool
is_gap Gap = true
is_gap (Part text) = false

-- the bytes of a mark
abbrev pub text_of : Mark → List ℕ
text_of Gap = []
text_of (Part text) = text

-- the words of these marks: the parts between two gaps, where there are some, joined
abbrev pub words_in : List Mark → List (List ℕ)
words_in marks = map (flat_map text_of) (filter has_some (slice_split is_gap marks))

-- The words of a line, or its fault: a quote without an end.
abbrev pub words_of : List ℕ → Result (List (List ℕ)) LineFault
words_of line = verdict_map words_in (marks_of (cut_at quote line))

-- words of at most 1,048,576 bytes
abbrev pub AreShort : List (List ℕ) → Type 0
AreShort words = All (λ word. length word ≤ 1048576) words
