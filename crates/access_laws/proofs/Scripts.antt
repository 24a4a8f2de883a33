-- What holds of a player's session at first and after each command of the script holds before each command.
use Rattle.std.proofs.Common.{◌≡◌, ℕ, zero, suc, ◌+◌, List, [], ◌∷◌, ◌++◌, take, Option, Some, sym, ap, ◌∙◌, subst, inl, inr, arith}
use Rattle.std.specs.Prelude.{slice_get}
use Rattle.std.specs.Option.{option_map_or}
use Rattle.std.proofs.lemmas.List.{take_more, take_all}
use Rattle.std.proofs.lemmas.List.Sums.{fold-append}
use Rattle.std.proofs.lemmas.Option.{slice_get_within, get_or_from_slice_get, slice_get_cases}
use Rattle.edit_terms.specs.declared.script.Line.{Line}
use Rattle.edit_terms.specs.declared.step.Step.TheVariants.{Settled}
use Rattle.run_terms.specs.Session.{Session, opening_session, resolved_command, after_command, session_after, step_of_line}

module _ (player depth : ℕ) (lines : List Line) where
  -- the session before the command of this number
  abbrev pub session_at : ℕ → Session
  session_at n = session_after player depth (take n lines)

  pub step_is : (n : ℕ) (line : Line) → slice_get lines n ≡ Some line → step_of_line player depth lines n ≡ resolved_command (session_at n) line.command
  step_is n line is = ap (λ (o : Option Line). option_map_or (λ l. resolved_command (session_at n) l.command) o Settled) is

  one_more : (n : ℕ) (line : Line) → slice_get lines n ≡ Some line → session_at (suc n) ≡ after_command (session_at n) line.command
  one_more n line is =
      let inside = slice_get_within lines n line is in
      let next : n + 1 ≡ suc n = omega arith in
      let all : take (suc n) lines ≡ take n lines ++ line ∷ [] =
      ap (λ (k : ℕ). take k lines) (sym next) ∙ take_more lines n line inside ∙ ap (λ (l : Line). take n lines ++ l ∷ []) (get_or_from_slice_get lines n line line is) in
      ap (λ (ls : List Line). session_after player depth ls) all ∙ fold-append (λ t l. after_command t l.command) (opening_session player depth) (take n lines) (line ∷ [])

  pub kept_by_commands : (P : Session → Type 0) → P (opening_session player depth) → ((n : ℕ) (line : Line) → slice_get lines n ≡ Some line → P (session_at n) → P (after_command (session_at n) line.command)) → (n : ℕ) → P (session_at n)
  kept_by_commands P first keeps zero = first
  kept_by_commands P first keeps (suc n) = elim (slice_get_cases lines n).1 [
    | inl found ↦ subst P (sym (one_more n found.0 found.2)) (keeps n found.0 found.2 (kept_by_commands P first keeps n))
    | inr past ↦
        let over = past.0 in
        subst P (ap (λ (ls : List Line). session_after player depth ls) (take_all n lines over ∙ sym (take_all (suc n) lines (omega (arith, over))))) (kept_by_commands P first keeps n)
  ]
