-- Properties between brackets, piece by piece.
use Rattle.std.proofs.Common.{◌≡◌, ℕ, ◌≤◌, true, false, cond, List, [], ◌∷◌, length, Err, refl, arith}
use Rattle.std.specs.Prelude.{◌==◌}
use Rattle.std.specs.List.{onto_first}
use Rattle.edit_terms.specs.StateText.{BadProperty, closing, cut_at, listed_before_end}
use Rattle.block_state.proofs.CutLemmas.{cut_some}

-- a text that goes on behind the first closing bracket is no list in brackets
pub text_behind_closing : (inside text : List ℕ) → (length text == 0) ≡ false → listed_before_end (inside ∷ cut_at closing text) ≡ Err BadProperty
text_behind_closing inside [] some = absurd cc
text_behind_closing inside (b ∷ text) some =
    elim (b == closing) as (λ t. listed_before_end (inside ∷ cond t ([] ∷ cut_at closing text) (onto_first b (cut_at closing text))) ≡ Err BadProperty) [
      | true ↦ second (cut_at closing text) (cut_some closing text)
      | false ↦ longer (cut_at closing text)
    ]
  where
    second : (pieces : List (List ℕ)) → 1 ≤ length pieces → listed_before_end (inside ∷ [] ∷ pieces) ≡ Err BadProperty
    second [] h = absurd (omega (arith, h))
    second (piece ∷ pieces) h = refl

    longer : (pieces : List (List ℕ)) → listed_before_end (inside ∷ onto_first b pieces) ≡ Err BadProperty
    longer [] = refl
    longer (piece ∷ pieces) = refl
