-- What commands within the limits are in a session, and what they make of it.
use Rattle.std.proofs.Common.{◌≡◌, ℕ, true, ◌&&◌, List, [], ◌∷◌, Option, Some, None, refl, take}
use Rattle.std.specs.Prelude.{All, IfSome, IsTrue, option_map, slice_get, fold}
use Rattle.std.specs.Option.{option_map_or}
use Rattle.std.specs.Cmp.Derive.{both_true}
use Rattle.std.proofs.lemmas.Bool.{and_parts}
use Rattle.std.proofs.lemmas.List.Elements.{All-head, All-tail, All-take}
use Rattle.edit_terms.specs.declared.pos.Pos.{Pos}
use Rattle.edit_terms.specs.declared.region.Kind.{Kind}
use Rattle.edit_terms.specs.declared.region.Selection.{Selection}
use Rattle.edit_terms.specs.declared.transform.Transform.{Transform}
use Rattle.edit_terms.specs.declared.clip.Clip.{Clip}
use Rattle.edit_terms.specs.declared.script.Command.{Command}
use Rattle.edit_terms.specs.declared.script.Command.TheVariants.{Pos1, Pos2, Place, Block, Set, Walls, Faces, Replace, Sphere, Cyl, Stack, Move, Copy, Cut, Paste, Rotate, Flip, Gmask, Undo, Redo}
use Rattle.edit_terms.specs.declared.script.Line.{Line}
use Rattle.edit_terms.specs.declared.step.Refusal.{Refusal}
use Rattle.edit_terms.specs.declared.step.Step.TheVariants.{Settled, Refused}
use Rattle.edit_terms.specs.declared.step.Work.{Work}
use Rattle.edit_terms.specs.Area.{IsOnMap}
use Rattle.edit_terms.specs.Transform.{then_turn, then_flip}
use Rattle.run_terms.specs.Limits.{is_radius, is_height, is_mask_within, is_pattern_within, is_command_within}
use Rattle.run_terms.specs.Session.{Session, opening_session, selection_from, selection_of, refusal_of, work_of, job_of, resolved_command, clip_from, with_command, counted, after_command, session_after, step_of_line}
use Rattle.run_terms.specs.SessionLimits.{is_selection_within, is_work_within, IsClipWithin, IsSessionWithin, IsStepWithin}
use Rattle.run_terms.proofs.LimitLemmas.{line_has}

-- ---- the work of a command

selection_within : (kind : Kind) (first second : Option Pos) → IfSome first IsOnMap → IfSome second IsOnMap → IfSome (selection_from kind first second) (λ s. IsTrue (is_selection_within s))
selection_within kind (Some first) (Some second) a b = both_true a b
selection_within kind (Some first) None a b = tt
selection_within kind None second a b = tt

-- a work that is made of what there may be
made_within : {A : Type 0} (P : A → Type 0) (make : A → Work) (o : Option A) → IfSome o P → ((a : A) → P a → IsTrue (is_work_within (make a))) → IfSome (option_map make o) (λ work. IsTrue (is_work_within work))
made_within P make None h each = tt
made_within P make (Some a) h each = each a h

module _ (s : Session) (h : IsSessionWithin s) where
  pub selected : IfSome (selection_of s) (λ from. IsTrue (is_selection_within from))
  selected = selection_within s.kind s.first s.second h.first h.second

  of_selection : (make : Selection → Work) → ((from : Selection) → IsTrue (is_selection_within from) → IsTrue (is_work_within (make from))) → IfSome (option_map make (selection_of s)) (λ work. IsTrue (is_work_within work))
  of_selection make each = made_within (λ from. IsTrue (is_selection_within from)) make (selection_of s) selected each

  of_place : (make : Pos → Work) → ((place : Pos) → IsOnMap place → IsTrue (is_work_within (make place))) → IfSome (option_map make s.place) (λ work. IsTrue (is_work_within work))
  of_place make each = made_within IsOnMap make s.place h.place each

  work_within : (command : Command) → is_command_within command ≡ true → IfSome (work_of s command) (λ work. IsTrue (is_work_within work))
  work_within (Block at state) c = c
  work_within (Set pattern) c = of_selection _ (λ from on. both_true (both_true on refl) c)
  work_within (Walls pattern) c = of_selection _ (λ from on. both_true (both_true on refl) c)
  work_within (Faces pattern) c = of_selection _ (λ from on. both_true (both_true on refl) c)
  work_within (Replace mask pattern) c = let parts = and_parts (is_mask_within mask) (is_pattern_within pattern) c in of_selection _ (λ from on. both_true (both_true on parts.0) parts.1)
  work_within (Sphere pattern radius hollow) c =
      let parts = and_parts (is_pattern_within pattern) (is_radius radius) c in
      of_place _ (λ centre on. both_true (both_true (both_true on parts.1) refl) parts.0)
  work_within (Cyl pattern radius height hollow) c =
      let parts = and_parts (is_pattern_within pattern && is_radius radius) (is_height height) c in
      let first = and_parts (is_pattern_within pattern) (is_radius radius) parts.0 in
      of_place _ (λ centre on. both_true (both_true (both_true (both_true on first.1) parts.1) refl) first.0)
  work_within (Stack count to) c = of_selection _ (λ from on. both_true on c)
  work_within (Move count to) c = of_selection _ (λ from on. both_true on c)
  work_within Copy c = of_selection _ (λ from on. on)
  work_within Cut c = of_selection _ (λ from on. on)
  work_within (Paste skip_air) c = of_place _ (λ place on. on)
  work_within (Undo count) c = refl
  work_within (Redo count) c = refl
  work_within command c = tt

  step_by_work : (refusal : Option Refusal) (found : Option Work) → IfSome found (λ work. IsTrue (is_work_within work)) → IsStepWithin (option_map_or Refused refusal (option_map_or (job_of s) found Settled))
  step_by_work (Some r) found w = tt
  step_by_work None None w = tt
  step_by_work None (Some work) w = record { work = w; global = h.global; selection = selected; clip = h.clip }

  -- what a command within the limits is in a session within them
  pub step_within : (command : Command) → is_command_within command ≡ true → IsStepWithin (resolved_command s command)
  step_within command c = step_by_work (refusal_of s command) (work_of s command) (work_within command c)

  -- ---- the session after a command

  copied_within : (from : Option Selection) (place : Option Pos) → IfSome from (λ f. IsTrue (is_selection_within f)) → IfSome place IsOnMap → IfSome (clip_from s from place) IsClipWithin
  copied_within (Some from) (Some origin) f p = record { from = f; origin = p }
  copied_within (Some from) None f p = tt
  copied_within None place f p = tt

  turned_within : (change : Transform → Transform) (clip : Option Clip) → IfSome clip IsClipWithin → IfSome (option_map (λ (c : Clip). record c { transform = change c.transform }) clip) IsClipWithin
  turned_within change (Some c) w = record { from = w.from; origin = w.origin }
  turned_within change None w = tt

  with_command_within : (command : Command) → is_command_within command ≡ true → IsSessionWithin (with_command s command)
  with_command_within (Pos1 at) c = record { first = c; second = h.second; place = h.place; global = h.global; clip = h.clip }
  with_command_within (Pos2 at) c = record { first = h.first; second = c; place = h.place; global = h.global; clip = h.clip }
  with_command_within (Place at) c = record { first = h.first; second = h.second; place = c; global = h.global; clip = h.clip }
  with_command_within (Gmask mask) c = record { first = h.first; second = h.second; place = h.place; global = c; clip = h.clip }
  with_command_within Copy c = record { first = h.first; second = h.second; place = h.place; global = h.global; clip = copied_within (selection_of s) s.place selected h.place }
  with_command_within Cut c = record { first = h.first; second = h.second; place = h.place; global = h.global; clip = copied_within (selection_of s) s.place selected h.place }
  with_command_within (Rotate quarters) c = record { first = h.first; second = h.second; place = h.place; global = h.global; clip = turned_within (λ t. then_turn t quarters) s.clip h.clip }
  with_command_within (Flip to) c = record { first = h.first; second = h.second; place = h.place; global = h.global; clip = turned_within (λ t. then_flip t to) s.clip h.clip }
  with_command_within command c = record { first = h.first; second = h.second; place = h.place; global = h.global; clip = h.clip }

  counted_within : (t : Session) (refusal : Option Refusal) → IsSessionWithin t → IsSessionWithin (counted (option_map_or (λ r. s) refusal t))
  counted_within t None new = record { first = new.first; second = new.second; place = new.place; global = new.global; clip = new.clip }
  counted_within t (Some r) new = record { first = h.first; second = h.second; place = h.place; global = h.global; clip = h.clip }

  pub session_within : (command : Command) → is_command_within command ≡ true → IsSessionWithin (after_command s command)
  session_within command c = counted_within (with_command s command) (refusal_of s command) (with_command_within command c)

-- ---- a whole script

pub opening_within : (player depth : ℕ) → IsSessionWithin (opening_session player depth)
opening_within player depth = record { first = tt; second = tt; place = tt; global = refl; clip = tt }

after_lines : (s : Session) (lines : List Line) → IsSessionWithin s → All (λ line. IsTrue (is_command_within line.command)) lines → IsSessionWithin (fold (λ t (line : Line). after_command t line.command) s lines)
after_lines s [] h all = h
after_lines s (line ∷ lines) h all =
    after_lines (after_command s line.command) lines (session_within s h line.command (All-head (λ (l : Line). IsTrue (is_command_within l.command)) line lines all)) (All-tail (λ (l : Line). IsTrue (is_command_within l.command)) line lines all)

-- the session after a script
pub session_keeps_limits : (player depth : ℕ) (lines : List Line) → All (λ line. IsTrue (is_command_within line.command)) lines → IsSessionWithin (session_after player depth lines)
session_keeps_limits player depth lines all = after_lines (opening_session player depth) lines (opening_within player depth) all

-- what a command that there may be is in a session
found_within : (s : Session) (found : Option Line) → IsSessionWithin s → ((line : Line) → found ≡ Some line → IsTrue (is_command_within line.command)) → IsStepWithin (option_map_or (λ line. resolved_command s line.command) found Settled)
found_within s None h each = tt
found_within s (Some line) h each = step_within s h line.command (each line refl)

-- the commands of a script
pub step_keeps_limits : (player depth : ℕ) (lines : List Line) → All (λ line. IsTrue (is_command_within line.command)) lines → (number : ℕ) → IsStepWithin (step_of_line player depth lines number)
step_keeps_limits player depth lines all number =
    let before = session_keeps_limits player depth (take number lines) (All-take (λ (l : Line). IsTrue (is_command_within l.command)) number lines all) in
    found_within (session_after player depth (take number lines)) (slice_get lines number) before
    (λ line is. line_has (λ l. IsTrue (is_command_within l.command)) lines all number line is)
