-- The words of a line are not longer than the line, since each of its bytes comes into one word at most.
use Rattle.std.proofs.Common.{◌≡◌, ℕ, ◌+◌, ◌≤◌, true, false, cond, List, [], ◌∷◌, ◌++◌, map, length, Ok, Err, refl, subst, arith, length-append}
use Rattle.std.specs.Prelude.{Result, IfOk, All, ◌==◌, filter, flat_map}
use Rattle.std.specs.List.{onto_first, slice_split}
use Rattle.std.proofs.lemmas.List.Elements.{All-nil, All-cons}
use Rattle.command_syntax.specs.declared.fault.LineFault.{LineFault}
use Rattle.edit_terms.specs.StateText.{cut_at}
use Rattle.command_syntax.specs.Text.{is_blank, quote}
use Rattle.term_text.specs.Verdict.{verdict_map}
use Rattle.command_syntax.specs.Words.{Mark, Gap, Part, mark_of, has_some, is_gap, text_of, marks_of, words_in, words_of, AreShort}

-- how many bytes there are in marks, in lists of marks and in texts
abbrev total : List Mark → ℕ
total [] = 0
total (Gap ∷ marks) = total marks
total (Part text ∷ marks) = length text + total marks

abbrev total_cut : List (List Mark) → ℕ
total_cut [] = 0
total_cut (marks ∷ cut) = total marks + total_cut cut

abbrev bytes_in : List (List ℕ) → ℕ
bytes_in [] = 0
bytes_in (text ∷ texts) = length text + bytes_in texts

-- the words of marks
length-text : (marks : List Mark) → length (flat_map text_of marks) ≡ total marks
length-text [] = refl
length-text (Gap ∷ marks) = length-text marks
length-text (Part text ∷ marks) = omega (arith, length-append text (flat_map text_of marks), length-text marks)

cut_short : (n : ℕ) (cut : List (List Mark)) → total_cut cut ≤ n → All (λ w. length w ≤ n) (map (flat_map text_of) (filter has_some cut))
cut_short n [] few = All-nil (λ w. length w ≤ n)
cut_short n ([] ∷ cut) few = cut_short n cut (omega arith)
cut_short n ((mark ∷ marks) ∷ cut) few = All-cons (λ w. length w ≤ n) (flat_map text_of (mark ∷ marks)) (map (flat_map text_of) (filter has_some cut)) (omega (arith, length-text (mark ∷ marks))) (cut_short n cut (omega arith))

onto_total : (text : List ℕ) (cut : List (List Mark)) → total_cut (onto_first (Part text) cut) ≡ length text + total_cut cut
onto_total text [] = omega arith
onto_total text (marks ∷ cut) = omega arith

cut_total : (marks : List Mark) → total_cut (slice_split is_gap marks) ≡ total marks
cut_total [] = refl
cut_total (Gap ∷ marks) = omega (arith, cut_total marks)
cut_total (Part text ∷ marks) = omega (arith, onto_total text (slice_split is_gap marks), cut_total marks)

marks_words_short : (n : ℕ) (marks : List Mark) → total marks ≤ n → All (λ w. length w ≤ n) (words_in marks)
marks_words_short n marks few = cut_short n (slice_split is_gap marks) (omega (arith, cut_total marks))

-- the marks of texts
total-append : (marks more : List Mark) → total (marks ++ more) ≡ total marks + total more
total-append [] more = omega arith
total-append (Gap ∷ marks) more = total-append marks more
total-append (Part text ∷ marks) more = omega (arith, total-append marks more)

total_outside : (text : List ℕ) → total (map mark_of text) ≤ length text
total_outside [] = omega arith
total_outside (b ∷ text) = elim (is_blank b) as (λ t. total (cond t Gap (Part (b ∷ [])) ∷ map mark_of text) ≤ length (b ∷ text)) [
  | true ↦ omega (arith, total_outside text)
  | false ↦ omega (arith, total_outside text)
]

quoted_short : (outside inside : List ℕ) (rest : ℕ) (marks : Result (List Mark) LineFault) → IfOk marks (λ m. total m ≤ rest) → IfOk (verdict_map (λ m. map mark_of outside ++ Part inside ∷ m) marks) (λ m. total m ≤ length outside + (length inside + rest))
quoted_short outside inside rest (Ok m) few = omega (arith, total-append (map mark_of outside) (Part inside ∷ m), total_outside outside)
quoted_short outside inside rest (Err fault) few = tt

marks_short : (texts : List (List ℕ)) → IfOk (marks_of texts) (λ m. total m ≤ bytes_in texts)
marks_short [] = tt
marks_short (outside ∷ []) = omega (arith, total_outside outside)
marks_short (outside ∷ inside ∷ texts) = quoted_short outside inside (bytes_in texts) (marks_of texts) (marks_short texts)

-- the texts of a line
onto_bytes : (b : ℕ) (texts : List (List ℕ)) → bytes_in (onto_first b texts) ≤ bytes_in texts + 1
onto_bytes b [] = omega arith
onto_bytes b (text ∷ texts) = omega arith

parts_short : (c : ℕ) (bytes : List ℕ) → bytes_in (cut_at c bytes) ≤ length bytes
parts_short c [] = omega arith
parts_short c (b ∷ bytes) = elim (b == c) as (λ t. bytes_in (cond t ([] ∷ cut_at c bytes) (onto_first b (cut_at c bytes))) ≤ length (b ∷ bytes)) [
  | true ↦ omega (arith, parts_short c bytes)
  | false ↦ omega (arith, onto_bytes b (cut_at c bytes), parts_short c bytes)
]

-- the words of a line
words_short_of : (n most : ℕ) (marks : Result (List Mark) LineFault) → IfOk marks (λ m. total m ≤ n) → n ≤ most → IfOk (verdict_map words_in marks) (λ words. All (λ w. length w ≤ most) words)
words_short_of n most (Ok m) few below = marks_words_short most m (omega arith)
words_short_of n most (Err fault) few below = tt

pub words_short : (line : List ℕ) (words : List (List ℕ)) → words_of line ≡ Ok words → length line ≤ 1048576 → AreShort words
words_short line words is few =
    subst (λ r. IfOk r AreShort) is (words_short_of (bytes_in (cut_at quote line)) 1048576 (marks_of (cut_at quote line)) (marks_short (cut_at quote line)) (omega (arith, parts_short quote line)))
