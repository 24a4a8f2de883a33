-- The words of a line's marks, mark by mark.
use Rattle.std.proofs.Common.{◌≡◌, ℕ, List, [], ◌∷◌, ◌++◌, map, Option, Some, None, refl, ap, sym, ◌∙◌, append_assoc, append-nil}
use Rattle.std.specs.Prelude.{filter, flat_map}
use Rattle.std.specs.List.{onto_first, slice_split}
use Rattle.command_syntax.specs.Words.{Mark, Gap, Part, has_some, is_gap, text_of, words_in}
use Rattle.command_syntax.specs.Cursor.{begun}

-- the words of marks that were cut at their gaps
abbrev words_cut : List (List Mark) → List (List ℕ)
words_cut cut = map (flat_map text_of) (filter has_some cut)

-- a gap ends a word
pub word_ends : (word : List ℕ) (marks : List Mark) → words_in (Part word ∷ Gap ∷ marks) ≡ word ∷ words_in marks
word_ends word marks = ap (λ w. w ∷ words_in marks) (append-nil word)

-- two parts without a gap between are parts of one word
parts_cut_join : (word text : List ℕ) (cut : List (List Mark)) → words_cut (onto_first (Part word) (onto_first (Part text) cut)) ≡ words_cut (onto_first (Part (word ++ text)) cut)
parts_cut_join word text [] = ap (λ w. w ∷ []) (sym (append_assoc word text []))
parts_cut_join word text (marks ∷ cut) = ap (λ w. w ∷ words_cut cut) (sym (append_assoc word text (flat_map text_of marks)))

pub parts_join : (word text : List ℕ) (marks : List Mark) → words_in (Part word ∷ Part text ∷ marks) ≡ words_in (Part (word ++ text) ∷ marks)
parts_join word text marks = parts_cut_join word text (slice_split is_gap marks)

-- a line's end ends a word, as a gap does
gap_at_end : (word : Option (List ℕ)) → words_in (begun word ++ Gap ∷ []) ≡ words_in (begun word ++ [])
gap_at_end None = refl
gap_at_end (Some word) = refl

-- all words have ended
all_ended : (done : List (List ℕ)) (word : Option (List ℕ)) → word ≡ None → done ≡ done ++ words_in (begun word ++ [])
all_ended done word none = rw none (sym (append-nil done))

pub ended : (done more : List (List ℕ)) (word left : Option (List ℕ)) → more ++ words_in (begun left ++ Gap ∷ []) ≡ done ++ words_in (begun word ++ []) → word ≡ None → done ≡ more ++ words_in (begun left ++ [])
ended done more word left gap none = all_ended done word none ∙ sym gap ∙ ap (λ words. more ++ words) (gap_at_end left)
