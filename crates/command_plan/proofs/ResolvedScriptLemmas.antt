-- A line more of a script: its session, and what is resolved of it.
use Rattle.std.proofs.Common.{◌≡◌, ℕ, ◌+◌, ◌<◌, ◌≤◌, ◌⊎◌, inl, inr, true, List, [], ◌∷◌, ◌++◌, length, take, map, get_or, Option, Some, sym, ap, ◌∙◌, subst, arith}
use Rattle.std.specs.Prelude.{slice_get}
use Rattle.std.specs.Option.{option_map_or}
use Rattle.std.specs.List.{range_with_len}
use Rattle.std.proofs.lemmas.Bool.{cases_lt}
use Rattle.std.proofs.lemmas.List.{length-append, length-take-le, get_or_append_left, get_or_default, get_or_push}
use Rattle.std.proofs.lemmas.List.FromFn.{map-range_with_len_more}
use Rattle.std.proofs.lemmas.List.Sums.{fold_more}
use Rattle.std.proofs.lemmas.Option.{slice_get_cases}
use Rattle.edit_terms.specs.declared.script.Line.{Line}
use Rattle.edit_terms.specs.declared.step.Step.{Step}
use Rattle.edit_terms.specs.declared.step.Step.TheVariants.{Settled}
use Rattle.edit_terms.specs.Area.{Area}
use Rattle.run_terms.specs.Limits.{is_command_within}
use Rattle.run_terms.specs.Session.{Session, opening_session, session_after, step_of_line, resolved_command, after_command}
use Rattle.run_terms.specs.SessionLimits.{IsSessionWithin}
use Rattle.run_terms.proofs.Earlier.{session_has_taken}
use Rattle.run_terms.proofs.SessionLimitLemmas.{opening_within, session_within}
use Rattle.command_plan.specs.declared.footprint.Footprint.{Footprint}
use Rattle.command_plan.specs.ResolvedScripts.{footprint_at, no_footprint}
use Rattle.command_plan.specs.Footprints.{IsFootprint}
use Rattle.command_plan.specs.Taken.{IsTaken}

pub taken_none : (area : Area) (player depth : ℕ) (lines : List Line) (session : Session) (steps : List Step) (fs : List Footprint)
    → session ≡ opening_session player depth → steps ≡ [] → fs ≡ [] → IsTaken area player depth lines 0 session steps fs
taken_none area player depth lines session steps fs opening none none_too = record {
  session_is = opening;
  within = subst (λ (s : Session). IsSessionWithin s) (sym opening) (opening_within player depth);
  resolved = record { steps_are = none; many = ap (λ (xs : List Footprint). length xs) none_too; each = λ n below. absurd (omega (arith, below)) };
}

there : (lines : List Line) (k : ℕ) (line : Line) → k < length lines → line ≡ get_or lines k line → slice_get lines k ≡ Some line
there lines k line within is = elim (slice_get_cases lines k).1 [
  | inl found ↦ found.2 ∙ ap (λ (l : Line). Some l) (sym found.3 ∙ get_or_default lines k found.0 line within ∙ sym is)
  | inr past ↦ absurd (omega (arith, within, past.0))
]

module _ (player depth : ℕ) (lines : List Line) (k : ℕ) (line : Line) (within : k < length lines) (is : line ≡ get_or lines k line) where
  pub step_is : step_of_line player depth lines k ≡ resolved_command (session_after player depth (take k lines)) line.command
  step_is = ap (λ (o : Option Line). option_map_or (λ l. resolved_command (session_after player depth (take k lines)) l.command) o Settled) (there lines k line within is)

  pub session_more : session_after player depth (take (k + 1) lines) ≡ after_command (session_after player depth (take k lines)) line.command
  session_more =
      fold_more (λ (s : Session) (l : Line). after_command s l.command) (opening_session player depth) lines k line within
      ∙ ap (λ (l : Line). after_command (session_after player depth (take k lines)) l.command) (sym is)

-- a session that took so many lines counts them
pub took : (player depth : ℕ) (lines : List Line) (k : ℕ) (session : Session) → k ≤ length lines → session ≡ session_after player depth (take k lines) → session.number ≡ k
took player depth lines k session within is = ap (λ (s : Session). s.number) is ∙ (session_has_taken player depth (take k lines)).number ∙ length-take-le k lines within

each_more : (area : Area) (player depth : ℕ) (lines : List Line) (k : ℕ) (fs : List Footprint) (f : Footprint) → length fs ≡ k
    → ((n : ℕ) → n < k → IsFootprint area (step_of_line player depth lines n) (footprint_at fs n)) → IsFootprint area (step_of_line player depth lines k) f
    → (n : ℕ) → n < k + 1 → IsFootprint area (step_of_line player depth lines n) (footprint_at (fs ++ f ∷ []) n)
each_more area player depth lines k fs f many each new n below = elim (cases_lt n k) as (λ _. IsFootprint area (step_of_line player depth lines n) (footprint_at (fs ++ f ∷ []) n)) [
  | inl earlier ↦ subst (λ (g : Footprint). IsFootprint area (step_of_line player depth lines n) g) (sym (get_or_append_left fs (f ∷ []) no_footprint n (omega (arith, earlier, many)))) (each n earlier)
  | inr last ↦
      let same : n ≡ k = omega (arith, below, last) in
      subst (λ (g : Footprint). IsFootprint area (step_of_line player depth lines n) g) (sym (get_or_push fs f no_footprint n (omega (arith, many, same))))
      (subst (λ (m : ℕ). IsFootprint area (step_of_line player depth lines m) f) (sym same) new)
]

pub taken_more : (area : Area) (player depth : ℕ) (lines : List Line) (k : ℕ) (line : Line) (old new : Session) (step : Step) (f : Footprint) (steps more : List Step) (fs gs : List Footprint)
    → k < length lines → line ≡ get_or lines k line → is_command_within line.command ≡ true → IsTaken area player depth lines k old steps fs
    → step ≡ resolved_command old line.command → new ≡ after_command old line.command → IsFootprint area step f → more ≡ steps ++ step ∷ [] → gs ≡ fs ++ f ∷ []
    → IsTaken area player depth lines (k + 1) new more gs
taken_more area player depth lines k line old new step f steps more fs gs within is limits taken resolved after footprint more_is gs_is =
    let session = ap (λ (s : Session). after_command s line.command) taken.session_is ∙ sym (session_more player depth lines k line within is) in
    let own : step ≡ step_of_line player depth lines k = resolved ∙ ap (λ (s : Session). resolved_command s line.command) taken.session_is ∙ sym (step_is player depth lines k line within is) in
    let was = taken.resolved in
    record {
      session_is = after ∙ session;
      within = subst (λ (s : Session). IsSessionWithin s) (sym after) (session_within old taken.within line.command limits);
      resolved = record {
        steps_are = more_is ∙ ap (λ (ss : List Step). ss ++ step ∷ []) was.steps_are ∙ ap (λ (s : Step). map (step_of_line player depth lines) (range_with_len 0 k) ++ s ∷ []) own
            ∙ sym (map-range_with_len_more (step_of_line player depth lines) 0 k k (omega arith));
        many = ap (λ (xs : List Footprint). length xs) gs_is ∙ length-append fs (f ∷ []) ∙ ap (λ (n : ℕ). n + 1) was.many;
        each = subst (λ (xs : List Footprint). (n : ℕ) → n < k + 1 → IsFootprint area (step_of_line player depth lines n) (footprint_at xs n)) (sym gs_is)
            (each_more area player depth lines k fs f was.many was.each (subst (λ (s : Step). IsFootprint area s f) own footprint));
      };
    }
