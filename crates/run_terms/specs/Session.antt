-- A player's session: what it holds after some commands, and what a command is there. It depends on the
-- player's own commands alone; a history keeps at most so many edits, its depth.
use Rattle.std.specs.Prelude.{◌≡◌, ℕ, ◌+◌, ◌-◌, ◌<◌, ◌≤◌, ◌==◌, nat_le, Bool, false, ◌&&◌, ◌||◌, if◌then◌else◌, List, [], ◌∷◌, ◌++◌, length, take, drop, reverse, slice_get, Option, Some, None, is_none, option_map, fold, find, All}
use Rattle.std.specs.Option.{option_map_or}
use Rattle.edit_terms.specs.declared.pos.Pos.{Pos}
use Rattle.edit_terms.specs.declared.region.Kind.{Kind}
use Rattle.edit_terms.specs.declared.region.Kind.TheVariants.{Cuboid}
use Rattle.edit_terms.specs.declared.region.Selection.{Selection}
use Rattle.edit_terms.specs.declared.region.Region.TheVariants as region
use Rattle.edit_terms.specs.declared.mask.Mask.{Mask}
use Rattle.edit_terms.specs.declared.transform.Transform.{Transform}
use Rattle.edit_terms.specs.declared.clip.Clip.{Clip}
use Rattle.edit_terms.specs.declared.script.Command.{Command}
use Rattle.edit_terms.specs.declared.script.Command.TheVariants.{Pos1, Pos2, Place, Sel, Block, Set, Walls, Faces, Replace, Sphere, Cyl, Stack, Move, Copy, Cut, Paste, Rotate, Flip, Gmask, Undo, Redo}
use Rattle.edit_terms.specs.declared.script.Line.{Line}
use Rattle.edit_terms.specs.declared.step.Refusal.{Refusal}
use Rattle.edit_terms.specs.declared.step.Refusal.TheVariants.{NoSelection, NoPlace, NoClipboard, NothingToUndo, NothingToRedo}
use Rattle.edit_terms.specs.declared.step.Work.{Work}
use Rattle.edit_terms.specs.declared.step.Work.TheVariants as work
use Rattle.edit_terms.specs.declared.step.Step.{Step}
use Rattle.edit_terms.specs.declared.step.Step.TheVariants.{Settled, Job, Refused}
use Rattle.edit_terms.specs.Transform.{then_turn, then_flip}
use Rattle.edit_terms.specs.Mask.{names_selection}
use Rattle.run_terms.specs.Commands.{is_on_selection, is_at_place, is_edit, is_on_clipboard, is_undo, is_redo}

-- What a session holds: the player's number and the history's depth, which stay; how many commands it has taken;
-- the shape of selections; the two positions, the placement position, the global mask and the clipboard, where they
-- are set; and the history: the edits in it by command index, the oldest first, and how many stand before its cursor.
pub record Session : Type 0 where
  pub player : ℕ
  pub depth : ℕ
  pub number : ℕ
  pub kind : Kind
  pub first : Option Pos
  pub second : Option Pos
  pub place : Option Pos
  pub global : Option Mask
  pub clip : Option Clip
  pub edits : List ℕ
  pub cursor : ℕ

-- at first the shape is the cuboid, nothing is set, and the history is empty
abbrev pub opening_session : ℕ → ℕ → Session
opening_session player depth = record {
  player = player;
  depth = depth;
  number = 0;
  kind = Cuboid;
  first = None;
  second = None;
  place = None;
  global = None;
  clip = None;
  edits = [];
  cursor = 0;
}

abbrev pub selection_from : Kind → Option Pos → Option Pos → Option Selection
selection_from kind (Some first) (Some second) = Some (record { kind = kind; first = first; second = second })
selection_from kind _ _ = None

-- the selection is there exactly where both positions are set
abbrev pub selection_of : Session → Option Selection
selection_of s = selection_from s.kind s.first s.second

-- ---- the history

-- the edits that an undo of so many takes: those before the cursor, the latest first, or all if they are fewer
abbrev pub undone_edits : Session → ℕ → List ℕ
undone_edits s count = take count (reverse (take s.cursor s.edits))

-- the edits that a redo of so many takes: those behind the cursor, the earliest first, or all if they are fewer
abbrev pub redone_edits : Session → ℕ → List ℕ
redone_edits s count = take count (drop s.cursor s.edits)

-- the last so many items of a list, or all
abbrev pub last_of : {A : Type 0} → ℕ → List A → List A
last_of count xs = drop (length xs - count) xs

-- The command enters the history at the cursor: the undone edits behind it are dropped, the cursor moves behind the
-- command, and the oldest edit goes where the history is longer than its depth.
abbrev pub with_edits : Session → List ℕ → Session
with_edits s edits = record s { edits = edits; cursor = length edits }

abbrev pub entered : Session → Session
entered s = with_edits s (last_of s.depth (take s.cursor s.edits ++ s.number ∷ []))

-- ---- what a command is

-- a command needs the selection, or is an edit while the global mask names the selection
abbrev pub needs_selection : Session → Command → Bool
needs_selection s command = is_on_selection command || (is_edit command && option_map_or names_selection s.global false)

-- the refusals in their order, each with whether its cause is there
abbrev pub causes : Session → Command → List (Bool × Refusal)
causes s command =
    (needs_selection s command && is_none (selection_of s), NoSelection)
    ∷ (is_at_place command && is_none s.place, NoPlace)
    ∷ (is_on_clipboard command && is_none s.clip, NoClipboard)
    ∷ (is_undo command && s.cursor == 0, NothingToUndo)
    ∷ (is_redo command && nat_le (length s.edits) s.cursor, NothingToRedo)
    ∷ []

-- the first refusal whose cause is there
abbrev pub refusal_of : Session → Command → Option Refusal
refusal_of s command = option_map (λ cause. cause.1) (find (λ cause. cause.0) (causes s command))

-- The work of a command that isn't refused, with the selection and the placement position of the session; a command
-- that changes the session alone has none.
abbrev pub work_of : Session → Command → Option Work
work_of s (Block at state) = Some (work.Put at state)
work_of s (Set pattern) = option_map (λ from. work.Fill (region.Selected from) None pattern) (selection_of s)
work_of s (Walls pattern) = option_map (λ from. work.Fill (region.Walls from) None pattern) (selection_of s)
work_of s (Faces pattern) = option_map (λ from. work.Fill (region.Faces from) None pattern) (selection_of s)
work_of s (Replace mask pattern) = option_map (λ from. work.Fill (region.Selected from) (Some mask) pattern) (selection_of s)
work_of s (Sphere pattern radius hollow) = option_map (λ centre. work.Fill (region.Ball centre radius hollow) None pattern) s.place
work_of s (Cyl pattern radius height hollow) = option_map (λ centre. work.Fill (region.Tube centre radius height hollow) None pattern) s.place
work_of s (Stack count to) = option_map (λ from. work.Stack from count to) (selection_of s)
work_of s (Move count to) = option_map (λ from. work.Move from count to) (selection_of s)
work_of s Copy = option_map (λ from. work.Copy from) (selection_of s)
work_of s Cut = option_map (λ from. work.Cut from) (selection_of s)
work_of s (Paste skip_air) = option_map (λ place. work.Paste place skip_air) s.place
work_of s (Undo count) = Some (work.Undo (undone_edits s count))
work_of s (Redo count) = Some (work.Redo (redone_edits s count))
work_of s _ = None

-- a job carries the global mask, the selection and the clipboard as they stand before the command, used or not
abbrev pub job_of : Session → Work → Step
job_of s work = Job (record { work = work; global = s.global; selection = selection_of s; clip = s.clip })

-- What a command is in a session.
abbrev pub resolved_command : Session → Command → Step
resolved_command s command = option_map_or Refused (refusal_of s command) (option_map_or (job_of s) (work_of s command) Settled)

-- ---- the session after a command

-- the clipboard after a copy of this selection from this position: it isn't turned
abbrev pub clip_from : Session → Option Selection → Option Pos → Option Clip
clip_from s (Some from) (Some origin) = Some (record {
  source = record { player = s.player; step = s.number };
  from = from;
  origin = origin;
  transform = record { flip_x = false; flip_y = false; turns = 0 };
})
clip_from s _ _ = None

abbrev pub with_copy : Session → Session
with_copy s = record s { clip = clip_from s (selection_of s) s.place }

abbrev pub with_transform : (Transform → Transform) → Session → Session
with_transform change s = record s { clip = option_map (λ (clip : Clip). record clip { transform = change clip.transform }) s.clip }

-- what a command that isn't refused makes of the session
abbrev pub with_command : Session → Command → Session
with_command s (Pos1 at) = record s { first = Some at }
with_command s (Pos2 at) = record s { second = Some at }
with_command s (Place at) = record s { place = Some at }
with_command s (Sel kind) = record s { kind = kind }
with_command s (Gmask mask) = record s { global = mask }
with_command s Copy = with_copy s
with_command s Cut = entered (with_copy s)
with_command s (Rotate quarters) = with_transform (λ t. then_turn t quarters) s
with_command s (Flip to) = with_transform (λ t. then_flip t to) s
with_command s (Undo count) = record s { cursor = s.cursor - length (undone_edits s count) }
with_command s (Redo count) = record s { cursor = s.cursor + length (redone_edits s count) }
with_command s command = if is_edit command then entered s else s

-- a refused command changes nothing but the count
abbrev pub counted : Session → Session
counted s = record s { number = s.number + 1 }

-- the session after one more command
abbrev pub after_command : Session → Command → Session
after_command s command = counted (option_map_or (λ refusal. s) (refusal_of s command) (with_command s command))

-- the session of a player, with this depth, after these lines
abbrev pub session_after : ℕ → ℕ → List Line → Session
session_after player depth lines = fold (λ s line. after_command s line.command) (opening_session player depth) lines

-- what the command of this number in the script is, from 0
abbrev pub step_of_line : ℕ → ℕ → List Line → ℕ → Step
step_of_line player depth lines number =
    option_map_or (λ line. resolved_command (session_after player depth (take number lines)) line.command) (slice_get lines number) Settled

-- The history holds earlier commands, at most as many as its depth, and the cursor stands among them or at an end.
pub record IsHistory (s : Session) : Type 0 where
  pub earlier : All (λ n. n < s.number) s.edits
  pub within : length s.edits ≤ s.depth
  pub among : s.cursor ≤ length s.edits

-- a refused command changes nothing in the session but the count of commands
abbrev pub ChangesOnlyTheCount : Session → Command → Type 0
ChangesOnlyTheCount s command = after_command s command ≡ record s { number = s.number + 1 }
