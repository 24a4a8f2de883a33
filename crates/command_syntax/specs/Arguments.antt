-- How many words stand behind a command's own: too few are a missing word, too many an extra one.
use Rattle.std.specs.Prelude.{ℕ, List, [], ◌∷◌, Option, Some, None, Result, Ok, Err}
use Rattle.term_text.specs.Verdict.{verdict_then, both}
use Rattle.command_syntax.specs.declared.fault.LineFault.{LineFault}
use Rattle.command_syntax.specs.declared.fault.LineFault.TheVariants.{MissingWord, ExtraWord}

-- no word, for a command that is this one
abbrev pub no_word : {A : Type 0} → A → List (List ℕ) → Result A LineFault
no_word command [] = Ok command
no_word command (_ ∷ _) = Err ExtraWord

-- the only word
abbrev pub one_word : List (List ℕ) → Result (List ℕ) LineFault
one_word [] = Err MissingWord
one_word (word ∷ []) = Ok word
one_word (_ ∷ _ ∷ _) = Err ExtraWord

-- none or one
abbrev pub optional_word : List (List ℕ) → Result (Option (List ℕ)) LineFault
optional_word [] = Ok None
optional_word (word ∷ []) = Ok (Some word)
optional_word (_ ∷ _ ∷ _) = Err ExtraWord

-- the only two words
abbrev pub two_words : List (List ℕ) → Result (List ℕ × List ℕ) LineFault
two_words [] = Err MissingWord
two_words (_ ∷ []) = Err MissingWord
two_words (first ∷ second ∷ []) = Ok (first, second)
two_words (_ ∷ _ ∷ _ ∷ _) = Err ExtraWord

-- one, before which another may stand
abbrev pub optional_and_one : List (List ℕ) → Result (Option (List ℕ) × List ℕ) LineFault
optional_and_one [] = Err MissingWord
optional_and_one (word ∷ []) = Ok (None, word)
optional_and_one (first ∷ word ∷ []) = Ok (Some first, word)
optional_and_one (_ ∷ _ ∷ _ ∷ _) = Err ExtraWord

-- two, behind which another may stand
abbrev pub two_and_optional : List (List ℕ) → Result (List ℕ × List ℕ × Option (List ℕ)) LineFault
two_and_optional [] = Err MissingWord
two_and_optional (_ ∷ []) = Err MissingWord
two_and_optional (first ∷ second ∷ []) = Ok (first, second, None)
two_and_optional (first ∷ second ∷ third ∷ []) = Ok (first, second, Some third)
two_and_optional (_ ∷ _ ∷ _ ∷ _ ∷ _) = Err ExtraWord

-- what is read of one word
abbrev pub of_one : {A : Type 0} → (List ℕ → Result A LineFault) → List (List ℕ) → Result A LineFault
of_one reading words = verdict_then reading (one_word words)

-- what is made of two words
abbrev pub of_two : {A B C : Type 0} → (A → B → C) → (List ℕ → Result A LineFault) → (List ℕ → Result B LineFault) → List (List ℕ) → Result C LineFault
of_two make first second words = verdict_then (λ pair. both make (first pair.0) (second pair.1)) (two_words words)

-- what is read of a word that needn't be there
abbrev pub if_any : {A : Type 0} → A → (List ℕ → Result A LineFault) → Option (List ℕ) → Result A LineFault
if_any value reading None = Ok value
if_any value reading (Some word) = reading word
