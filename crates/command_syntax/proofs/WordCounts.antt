-- Lists of more words than a command takes.
use Rattle.std.proofs.Common.{◌≡◌, ℕ, ◌≤◌, List, [], ◌∷◌, length, Err, refl, arith}
use Rattle.command_syntax.specs.declared.fault.LineFault.TheVariants.{ExtraWord}
use Rattle.command_syntax.specs.declared.fault.ScriptFault.TheVariants.{BadPlayer}
use Rattle.command_syntax.specs.Player.{player_named}
use Rattle.command_syntax.specs.Arguments.{one_word, optional_word, two_words, optional_and_one, two_and_optional}

pub more_than_one : (words : List (List ℕ)) → 2 ≤ length words → one_word words ≡ Err ExtraWord
more_than_one [] many = absurd (omega arith)
more_than_one (_ ∷ []) many = absurd (omega arith)
more_than_one (_ ∷ _ ∷ _) many = refl

pub more_than_optional : (words : List (List ℕ)) → 2 ≤ length words → optional_word words ≡ Err ExtraWord
more_than_optional [] many = absurd (omega arith)
more_than_optional (_ ∷ []) many = absurd (omega arith)
more_than_optional (_ ∷ _ ∷ _) many = refl

pub more_than_two : (words : List (List ℕ)) → 3 ≤ length words → two_words words ≡ Err ExtraWord
more_than_two [] many = absurd (omega arith)
more_than_two (_ ∷ []) many = absurd (omega arith)
more_than_two (_ ∷ _ ∷ []) many = absurd (omega arith)
more_than_two (_ ∷ _ ∷ _ ∷ _) many = refl

pub more_than_optional_and_one : (words : List (List ℕ)) → 3 ≤ length words → optional_and_one words ≡ Err ExtraWord
more_than_optional_and_one [] many = absurd (omega arith)
more_than_optional_and_one (_ ∷ []) many = absurd (omega arith)
more_than_optional_and_one (_ ∷ _ ∷ []) many = absurd (omega arith)
more_than_optional_and_one (_ ∷ _ ∷ _ ∷ _) many = refl

pub more_than_two_and_optional : (words : List (List ℕ)) → 4 ≤ length words → two_and_optional words ≡ Err ExtraWord
more_than_two_and_optional [] many = absurd (omega arith)
more_than_two_and_optional (_ ∷ []) many = absurd (omega arith)
more_than_two_and_optional (_ ∷ _ ∷ []) many = absurd (omega arith)
more_than_two_and_optional (_ ∷ _ ∷ _ ∷ []) many = absurd (omega arith)
more_than_two_and_optional (_ ∷ _ ∷ _ ∷ _ ∷ _) many = refl

pub more_than_one_name : (names : List (List ℕ)) → 2 ≤ length names → player_named names ≡ Err BadPlayer
more_than_one_name [] many = absurd (omega arith)
more_than_one_name (_ ∷ []) many = absurd (omega arith)
more_than_one_name (_ ∷ _ ∷ _) many = refl
