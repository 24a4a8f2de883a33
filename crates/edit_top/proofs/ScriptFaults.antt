-- What is told of a script that is refused.
use Rattle.std.proofs.Common.{◌≡◌, ℕ, List, [], ◌∷◌, ◌++◌, codes, ap, ◌∙◌, subst}
use Rattle.std.specs.Prelude.{flat_map}
use Rattle.run_ports.specs.Output.{OutputState}
use Rattle.edit_top.specs.Ends.{IsPrinted}
use Rattle.edit_top.specs.ScriptFaultText.{script_line}

-- the pieces of a line that tells a fault, between what stands in each such line
pub pieces_printed : (before after : OutputState) (name : List ℕ) (put pieces : List (List ℕ)) (start colon end : List ℕ)
    → start ≡ codes "fault: script " → colon ≡ codes ": " → end ≡ codes "\n" → put ≡ pieces
    → IsPrinted before after (flat_map (λ (p : List ℕ). p) (start ∷ name ∷ colon ∷ put ++ end ∷ [])) → IsPrinted before after (script_line name pieces)
unfolding script_line
pieces_printed before after name put pieces start colon end starts colons ends same told =
    subst (λ (t : List ℕ). IsPrinted before after t)
    (ap (λ (a : List ℕ). flat_map (λ (p : List ℕ). p) (a ∷ name ∷ colon ∷ put ++ end ∷ [])) starts
    ∙ ap (λ (a : List ℕ). flat_map (λ (p : List ℕ). p) (codes "fault: script " ∷ name ∷ a ∷ put ++ end ∷ [])) colons
    ∙ ap (λ (a : List ℕ). flat_map (λ (p : List ℕ). p) (codes "fault: script " ∷ name ∷ codes ": " ∷ put ++ a ∷ [])) ends
    ∙ ap (λ (ps : List (List ℕ)). flat_map (λ (p : List ℕ). p) (codes "fault: script " ∷ name ∷ codes ": " ∷ ps ++ codes "\n" ∷ [])) same)
    told
