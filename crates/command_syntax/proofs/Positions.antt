-- A position by the parts between its commas.
use Rattle.std.proofs.Common.{◌≡◌, ℕ, List, [], ◌∷◌, length, Err, refl}
use Rattle.std.specs.Prelude.{◌≢◌}
use Rattle.command_syntax.specs.declared.fault.LineFault.TheVariants.{BadNumber}
use Rattle.edit_terms.specs.StateText.{comma, cut_at}
use Rattle.command_syntax.specs.Number.{number_of}
use Rattle.command_syntax.specs.Position.{position_at, position_from, position_of}

position_from_others : (cut : List (List ℕ)) → length cut ≢ 3 → position_from cut ≡ Err BadNumber
position_from_others [] other = refl
position_from_others (_ ∷ []) other = refl
position_from_others (_ ∷ _ ∷ []) other = refl
position_from_others (_ ∷ _ ∷ _ ∷ []) other = absurd (other refl)
position_from_others (_ ∷ _ ∷ _ ∷ _ ∷ _) other = refl

pub position_of_others : (word : List ℕ) → length (cut_at comma word) ≢ 3 → position_of word ≡ Err BadNumber
position_of_others word other = position_from_others (cut_at comma word) other

pub position_of_three : (word x y z : List ℕ) → cut_at comma word ≡ x ∷ y ∷ z ∷ [] → position_of word ≡ position_at (number_of x) (number_of y) (number_of z)
position_of_three word x y z cut = rw cut refl
