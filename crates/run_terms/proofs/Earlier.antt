-- What a session remembers of commands, edits of its history and the copy in its clipboard, lies before the next command.
use Rattle.std.proofs.Common.{◌≡◌, ℕ, suc, ◌+◌, ◌<◌, List, [], ◌∷◌, length, take, drop, Option, Some, None, refl, sym, ◌∙◌, subst, arith}
use Rattle.std.specs.Prelude.{All, IfSome, reverse, fold, option_map, slice_get}
use Rattle.std.specs.Option.{option_map_or}
use Rattle.std.proofs.lemmas.List.{length-take-le}
use Rattle.std.proofs.lemmas.List.Elements.{All-nil, All-take, All-drop}
use Rattle.std.proofs.lemmas.Option.{IfSome_then, slice_get_within}
use Rattle.edit_terms.specs.declared.pos.Pos.{Pos}
use Rattle.edit_terms.specs.declared.region.Selection.{Selection}
use Rattle.edit_terms.specs.declared.transform.Transform.{Transform}
use Rattle.edit_terms.specs.declared.clip.Source.{Source}
use Rattle.edit_terms.specs.declared.clip.Clip.{Clip}
use Rattle.edit_terms.specs.declared.script.Command.{Command}
use Rattle.edit_terms.specs.declared.script.Command.TheVariants.{Block, Copy, Cut, Rotate, Flip, Undo, Redo, Set, Walls, Faces, Replace, Sphere, Cyl, Stack, Move, Paste}
use Rattle.edit_terms.specs.declared.script.Line.{Line}
use Rattle.edit_terms.specs.declared.step.Refusal.{Refusal}
use Rattle.edit_terms.specs.declared.step.Work.{Work}
use Rattle.edit_terms.specs.declared.step.Step.{Step}
use Rattle.edit_terms.specs.declared.step.Step.TheVariants.{Settled, Job, Refused}
use Rattle.edit_terms.specs.Transform.{then_turn, then_flip}
use Rattle.run_terms.specs.Session.{Session, opening_session, selection_of, refusal_of, work_of, job_of, resolved_command, clip_from, with_command, counted, after_command, session_after, step_of_line}
use Rattle.run_terms.specs.Fold.{edits_taken, edits_taken_by}
use Rattle.run_terms.proofs.Lists.{All-reverse}
use Rattle.run_terms.proofs.SessionLemmas.{history_of_session}

-- a command id of the player before the command of this number
pub record IsEarlier (player number : ℕ) (id : Source) : Type 0 where
  pub own : id.player ≡ player
  pub step : id.step < number

-- the clipboard of the player's session was copied before the command of this number
pub record Remembers (player number : ℕ) (s : Session) : Type 0 where
  pub own : s.player ≡ player
  pub clip : IfSome s.clip (λ clip. IsEarlier player number clip.source)

remembers_later : (player number : ℕ) (s : Session) → Remembers player number s → Remembers player (suc number) s
remembers_later player number s h = record {
  own = h.own;
  clip = IfSome_then s.clip h.clip (λ c e. record { own = e.own; step = omega (arith, e.step) });
}

-- a copy of this number
copy_remembers : (player : ℕ) (s : Session) → s.player ≡ player → (from : Option Selection) (place : Option Pos) → IfSome (clip_from s from place) (λ clip. IsEarlier player (suc s.number) clip.source)
copy_remembers player s same (Some from) (Some origin) = record { own = same; step = omega arith }
copy_remembers player s same (Some from) None = tt
copy_remembers player s same None place = tt

-- a turned clipboard is of the same copy
turned_remembers : (player number : ℕ) (change : Transform → Transform) (clip : Option Clip) → IfSome clip (λ c. IsEarlier player number c.source)
    → IfSome (option_map (λ (c : Clip). record c { transform = change c.transform }) clip) (λ c. IsEarlier player number c.source)
turned_remembers player number change (Some c) e = e
turned_remembers player number change None e = tt

with_command_remembers : (player : ℕ) (s : Session) (command : Command) → Remembers player s.number s → Remembers player (suc s.number) (with_command s command)
with_command_remembers player s Copy h = record { own = h.own; clip = copy_remembers player s h.own (selection_of s) s.place }
with_command_remembers player s Cut h = record { own = h.own; clip = copy_remembers player s h.own (selection_of s) s.place }
with_command_remembers player s (Rotate quarters) h =
    let w = remembers_later player s.number s h in
    record { own = w.own; clip = turned_remembers player (suc s.number) (λ t. then_turn t quarters) s.clip w.clip }
with_command_remembers player s (Flip to) h =
    let w = remembers_later player s.number s h in
    record { own = w.own; clip = turned_remembers player (suc s.number) (λ t. then_flip t to) s.clip w.clip }
with_command_remembers player s command h = let w = remembers_later player s.number s h in record { own = w.own; clip = w.clip }

-- no command but the count itself changes the count
with_command_counts : (s : Session) (command : Command) → (with_command s command).number ≡ s.number
with_command_counts s (Block at state) = refl
with_command_counts s Copy = refl
with_command_counts s Cut = refl
with_command_counts s command = refl

-- a session that took so many commands, and copied in one of them
pub record HasTaken (player count : ℕ) (s : Session) : Type 0 where
  pub number : s.number ≡ count
  pub remembers : Remembers player s.number s

by_refusal : (player : ℕ) (s t : Session) (refusal : Option Refusal) → Remembers player (suc s.number) s → Remembers player (suc s.number) t → t.number ≡ s.number
    → HasTaken player (suc s.number) (counted (option_map_or (λ r. s) refusal t))
by_refusal player s t None old new same =
    let e : t.number + 1 ≡ suc s.number = omega (arith, same) in
    record { number = e; remembers = subst (λ (n : ℕ). Remembers player n (counted t)) (sym e) (record { own = new.own; clip = new.clip }) }
by_refusal player s t (Some r) old new same =
    let e : s.number + 1 ≡ suc s.number = omega arith in
    record { number = e; remembers = subst (λ (n : ℕ). Remembers player n (counted s)) (sym e) (record { own = old.own; clip = old.clip }) }

one_more : (player count : ℕ) (s : Session) (command : Command) → HasTaken player count s → HasTaken player (suc count) (after_command s command)
one_more player count s command h =
    subst (λ (n : ℕ). HasTaken player (suc n) (after_command s command)) h.number
    (by_refusal player s (with_command s command) (refusal_of s command) (remembers_later player s.number s h.remembers) (with_command_remembers player s command h.remembers) (with_command_counts s command))

folded : (player count : ℕ) (s : Session) (lines : List Line) → HasTaken player count s → HasTaken player (count + length lines) (fold (λ t line. after_command t line.command) s lines)
folded player count s [] h = subst (λ (n : ℕ). HasTaken player n s) (let e : count ≡ count + 0 = omega arith in e) h
folded player count s (line ∷ lines) h =
    subst (λ (n : ℕ). HasTaken player n (fold (λ t l. after_command t l.command) (after_command s line.command) lines)) (let e : suc count + length lines ≡ count + suc (length lines) = omega arith in e)
    (folded player (suc count) (after_command s line.command) lines (one_more player count s line.command h))

-- the session after some lines took as many commands
pub session_has_taken : (player depth : ℕ) (lines : List Line) → HasTaken player (length lines) (session_after player depth lines)
session_has_taken player depth lines =
    subst (λ (n : ℕ). HasTaken player n (session_after player depth lines)) (let e : 0 + length lines ≡ length lines = omega arith in e)
    (folded player 0 (opening_session player depth) lines (record { number = refl; remembers = record { own = refl; clip = tt } }))

-- ---- what a command takes

-- the clipboard that a job carries
abbrev pub clip_of : Step → Option Clip
clip_of (Job spec) = spec.clip
clip_of _ = None

-- a step takes edits and a copy of its player from before the command of this number
pub record IsOfEarlier (player number : ℕ) (step : Step) : Type 0 where
  pub taken : All (λ n. n < number) (edits_taken_by step)
  pub clip : IfSome (clip_of step) (λ clip. IsEarlier player number clip.source)

no_edits : {A : Type 0} (number : ℕ) (f : A → Work) (o : Option A) → ((a : A) → edits_taken (f a) ≡ []) → All (λ n. n < number) (option_map_or edits_taken (option_map f o) [])
no_edits number f None none = All-nil (λ n. n < number)
no_edits number f (Some a) none = subst (λ (xs : List ℕ). All (λ n. n < number) xs) (sym (none a)) (All-nil (λ n. n < number))

work_takes_earlier : (number : ℕ) (s : Session) (command : Command) → All (λ n. n < number) s.edits → All (λ n. n < number) (option_map_or edits_taken (work_of s command) [])
work_takes_earlier number s (Undo count) h = All-take (λ n. n < number) count (reverse (take s.cursor s.edits)) (All-reverse (λ n. n < number) (take s.cursor s.edits) (All-take (λ n. n < number) s.cursor s.edits h))
work_takes_earlier number s (Redo count) h = All-take (λ n. n < number) count (drop s.cursor s.edits) (All-drop (λ n. n < number) s.cursor s.edits h)
work_takes_earlier number s (Set pattern) h = no_edits number _ (selection_of s) (λ a. refl)
work_takes_earlier number s (Walls pattern) h = no_edits number _ (selection_of s) (λ a. refl)
work_takes_earlier number s (Faces pattern) h = no_edits number _ (selection_of s) (λ a. refl)
work_takes_earlier number s (Replace mask pattern) h = no_edits number _ (selection_of s) (λ a. refl)
work_takes_earlier number s (Sphere pattern radius hollow) h = no_edits number _ s.place (λ a. refl)
work_takes_earlier number s (Cyl pattern radius height hollow) h = no_edits number _ s.place (λ a. refl)
work_takes_earlier number s (Stack count to) h = no_edits number _ (selection_of s) (λ a. refl)
work_takes_earlier number s (Move count to) h = no_edits number _ (selection_of s) (λ a. refl)
work_takes_earlier number s Copy h = no_edits number _ (selection_of s) (λ a. refl)
work_takes_earlier number s Cut h = no_edits number _ (selection_of s) (λ a. refl)
work_takes_earlier number s (Paste skip_air) h = no_edits number _ s.place (λ a. refl)
work_takes_earlier number s command h = All-nil (λ n. n < number)

step_takes_earlier : (player number : ℕ) (s : Session) (refusal : Option Refusal) (found : Option Work) → Remembers player number s → All (λ n. n < number) (option_map_or edits_taken found [])
    → IsOfEarlier player number (option_map_or Refused refusal (option_map_or (job_of s) found Settled))
step_takes_earlier player number s (Some refusal) found h edits = record { taken = All-nil (λ n. n < number); clip = tt }
step_takes_earlier player number s None None h edits = record { taken = All-nil (λ n. n < number); clip = tt }
step_takes_earlier player number s None (Some work) h edits = record { taken = edits; clip = h.clip }

-- what a command of a script takes lies before it
line_takes_earlier : (player depth : ℕ) (lines : List Line) (number : ℕ) (found : Option Line) → slice_get lines number ≡ found
    → IsOfEarlier player number (option_map_or (λ line. resolved_command (session_after player depth (take number lines)) line.command) found Settled)
line_takes_earlier player depth lines number None is = record { taken = All-nil (λ n. n < number); clip = tt }
line_takes_earlier player depth lines number (Some line) is =
    let within = slice_get_within lines number line is in
    let s = session_after player depth (take number lines) in
    let taken = session_has_taken player depth (take number lines) in
    let same : s.number ≡ number = taken.number ∙ length-take-le number lines (omega (arith, within)) in
    let h : Remembers player number s = subst (λ (n : ℕ). Remembers player n s) same taken.remembers in
    let edits : All (λ n. n < number) s.edits = subst (λ (n : ℕ). All (λ e. e < n) s.edits) same (history_of_session player depth (take number lines)).earlier in
    step_takes_earlier player number s (refusal_of s line.command) (work_of s line.command) h (work_takes_earlier number s line.command edits)

pub step_is_of_earlier : (player depth : ℕ) (lines : List Line) (number : ℕ) → IsOfEarlier player number (step_of_line player depth lines number)
step_is_of_earlier player depth lines number = line_takes_earlier player depth lines number (slice_get lines number) refl
