-- Verdicts are taken one by one: those that are still to come stand behind the values that there are.
use Rattle.std.proofs.Common.{◌≡◌, ℕ, ◌+◌, List, [], ◌∷◌, ◌++◌, map, Ok, Err, refl, ap, append_assoc, append-nil, sym, ◌∙◌}
use Rattle.std.specs.Prelude.{Result}
use Rattle.std.specs.List.{enumerate_from}
use Rattle.term_text.specs.Verdict.{verdict_map, all_or_first}

-- these values, and those that the verdict has
abbrev pub joined : {A F : Type 0} → List A → Result (List A) F → Result (List A) F
joined done verdict = verdict_map (λ more. done ++ more) verdict

pub joined_none : {A F : Type 0} (verdict : Result (List A) F) → joined [] verdict ≡ verdict
joined_none (Ok xs) = refl
joined_none (Err fault) = refl

-- one more value
pub joined_more : {A F : Type 0} (done : List A) (x : A) (verdict : Result (List A) F) → joined done (verdict_map (λ xs. x ∷ xs) verdict) ≡ joined (done ++ x ∷ []) verdict
joined_more done x (Ok xs) = ap Ok (sym (append_assoc done (x ∷ []) xs))
joined_more done x (Err fault) = refl

-- no verdict is left
pub joined_all : {A F : Type 0} (done : List A) → joined {F = F} done (Ok []) ≡ Ok done
joined_all done = ap Ok (append-nil done)

-- one more value, where each verdict depends on how many stand before
pub joined_next : {A B F : Type 0} (judged : ℕ × B → Result A F) (done : List A) (count : ℕ) (x : A) (piece : B) (more : List B) → judged (count, piece) ≡ Ok x → joined done (all_or_first (map judged (enumerate_from count (piece ∷ more)))) ≡ joined (done ++ x ∷ []) (all_or_first (map judged (enumerate_from (count + 1) more)))
joined_next judged done count x piece more is =
    ap (λ v. joined done (all_or_first (v ∷ map judged (enumerate_from (count + 1) more)))) is
    ∙ joined_more done x (all_or_first (map judged (enumerate_from (count + 1) more)))
