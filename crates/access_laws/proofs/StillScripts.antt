-- Where no command of the scripts has noise or a choice, no job has.
use Rattle.std.proofs.Common.{◌≡◌, ℕ, true, List, Option, Some, None, refl}
use Rattle.std.specs.Prelude.{All, IfSome, option_map, slice_get}
use Rattle.std.specs.Option.{option_map_or}
use Rattle.std.specs.Cmp.Derive.{both_true}
use Rattle.edit_terms.specs.declared.clip.Source.{Source}
use Rattle.edit_terms.specs.declared.script.Command.{Command}
use Rattle.edit_terms.specs.declared.script.Command.TheVariants.{Block, Set, Walls, Faces, Replace, Sphere, Cyl, Stack, Move, Copy, Cut, Paste, Rotate, Flip, Gmask, Undo, Redo}
use Rattle.edit_terms.specs.declared.script.Line.{Line}
use Rattle.edit_terms.specs.declared.step.Refusal.{Refusal}
use Rattle.edit_terms.specs.declared.step.Work.{Work}
use Rattle.edit_terms.specs.declared.step.Work.TheVariants as work
use Rattle.edit_terms.specs.declared.step.Step.TheVariants.{Settled, Refused}
use Rattle.edit_terms.specs.declared.region.Region.TheVariants as region
use Rattle.run_terms.specs.Workload.{Workload}
use Rattle.run_terms.specs.Order.{lines_of, step_of_command}
use Rattle.run_terms.specs.Session.{Session, selection_of, refusal_of, work_of, job_of, resolved_command, with_command, counted}
use Rattle.run_terms.proofs.LimitLemmas.{lines_all, line_has}
use Rattle.access_laws.specs.OrderFree.{is_free_of_noise, is_work_still, is_still, is_command_still, AreScriptsStill}
use Rattle.access_laws.proofs.Scripts.{session_at, kept_by_commands}

-- the session's global mask has no noise leaf
abbrev IsStillSession : Session → Type 0
IsStillSession s = option_map_or is_free_of_noise s.global true ≡ true

with_command_still : (s : Session) (command : Command) → is_command_still command ≡ true → IsStillSession s → IsStillSession (with_command s command)
with_command_still s (Gmask mask) still h = still
with_command_still s Copy still h = h
with_command_still s Cut still h = h
with_command_still s (Rotate quarters) still h = h
with_command_still s (Flip to) still h = h
with_command_still s command still h = h

after_still : (s : Session) (command : Command) (refusal : Option Refusal) → is_command_still command ≡ true → IsStillSession s → IsStillSession (counted (option_map_or (λ r. s) refusal (with_command s command)))
after_still s command (Some r) still h = h
after_still s command None still h = with_command_still s command still h

made_still : {A : Type 0} (make : A → Work) (o : Option A) → ((a : A) → is_work_still (make a) ≡ true) → IfSome (option_map make o) (λ made. is_work_still made ≡ true)
made_still make None still = tt
made_still make (Some a) still = still a

work_of_still : (s : Session) (command : Command) → is_command_still command ≡ true → IfSome (work_of s command) (λ made. is_work_still made ≡ true)
work_of_still s (Block at state) still = refl
work_of_still s (Set pattern) still = made_still (λ from. work.Fill (region.Selected from) None pattern) (selection_of s) (λ a. still)
work_of_still s (Walls pattern) still = made_still (λ from. work.Fill (region.Walls from) None pattern) (selection_of s) (λ a. still)
work_of_still s (Faces pattern) still = made_still (λ from. work.Fill (region.Faces from) None pattern) (selection_of s) (λ a. still)
work_of_still s (Replace mask pattern) still = made_still (λ from. work.Fill (region.Selected from) (Some mask) pattern) (selection_of s) (λ a. still)
work_of_still s (Sphere pattern radius hollow) still = made_still (λ centre. work.Fill (region.Ball centre radius hollow) None pattern) s.place (λ a. still)
work_of_still s (Cyl pattern radius height hollow) still = made_still (λ centre. work.Fill (region.Tube centre radius height hollow) None pattern) s.place (λ a. still)
work_of_still s (Stack count to) still = made_still (λ from. work.Stack from count to) (selection_of s) (λ a. refl)
work_of_still s (Move count to) still = made_still (λ from. work.Move from count to) (selection_of s) (λ a. refl)
work_of_still s Copy still = made_still (λ from. work.Copy from) (selection_of s) (λ a. refl)
work_of_still s Cut still = made_still (λ from. work.Cut from) (selection_of s) (λ a. refl)
work_of_still s (Paste skip_air) still = made_still (λ place. work.Paste place skip_air) s.place (λ a. refl)
work_of_still s (Undo count) still = refl
work_of_still s (Redo count) still = refl
work_of_still s command still = tt

step_still : (s : Session) (refusal : Option Refusal) (found : Option Work) → IsStillSession s → IfSome found (λ made. is_work_still made ≡ true) → is_still (option_map_or Refused refusal (option_map_or (job_of s) found Settled)) ≡ true
step_still s (Some refusal) found h still = refl
step_still s None None h still = refl
step_still s None (Some made) h still = both_true h still

module _ (player depth : ℕ) (lines : List Line) (all : All (λ line. is_command_still line.command ≡ true) lines) where
  session_still : (n : ℕ) → IsStillSession (session_at player depth lines n)
  session_still =
      kept_by_commands player depth lines IsStillSession refl (λ n line is h.
      after_still (session_at player depth lines n) line.command (refusal_of (session_at player depth lines n) line.command) (line_has (λ l. is_command_still l.command ≡ true) lines all n line is) h)

  by_line : (n : ℕ) (o : Option Line) → slice_get lines n ≡ o → is_still (option_map_or (λ line. resolved_command (session_at player depth lines n) line.command) o Settled) ≡ true
  by_line n None is = refl
  by_line n (Some line) is =
      let s = session_at player depth lines n in
      step_still s (refusal_of s line.command) (work_of s line.command) (session_still n) (work_of_still s line.command (line_has (λ l. is_command_still l.command ≡ true) lines all n line is))

pub commands_still : (case : Workload) → AreScriptsStill case.scripts → (id : Source) → is_still (step_of_command case id) ≡ true
commands_still case all id =
    let lines = lines_of case.scripts id.player in
    by_line id.player case.depth lines (lines_all (λ line. is_command_still line.command ≡ true) case.scripts all id.player) id.step (slice_get lines id.step) refl
