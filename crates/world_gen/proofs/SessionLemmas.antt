-- A player whose corners all lie in its own columns reads and writes boxes in its own columns alone.
use Rattle.std.proofs.Common.{◌≡◌, ℕ, ◌*◌, List, [], ◌∷◌, Option, Some, None, refl, sym, subst}
use Rattle.std.specs.Prelude.{All, IfSome, option_map, slice_get}
use Rattle.std.specs.Option.{option_map_or}
use Rattle.std.specs.List.{range_with_len}
use Rattle.std.proofs.lemmas.List.Elements.{All-nil, All-cons, All-map}
use Rattle.edit_terms.specs.declared.pos.Pos.{Pos}
use Rattle.edit_terms.specs.declared.clip.Clip.{Clip}
use Rattle.edit_terms.specs.declared.mask.Mask.{Mask}
use Rattle.edit_terms.specs.declared.pattern.Pattern.{Pattern}
use Rattle.edit_terms.specs.declared.direction.Direction.{Direction}
use Rattle.edit_terms.specs.declared.direction.Direction.TheVariants.{Up}
use Rattle.edit_terms.specs.declared.region.Kind.{Kind}
use Rattle.edit_terms.specs.declared.region.Kind.TheVariants.{Cuboid}
use Rattle.edit_terms.specs.declared.region.Selection.{Selection}
use Rattle.edit_terms.specs.declared.region.Region.{Region}
use Rattle.edit_terms.specs.declared.region.Region.TheVariants as region
use Rattle.edit_terms.specs.declared.script.Command.{Command}
use Rattle.edit_terms.specs.declared.script.Command.TheVariants.{Pos1, Pos2, Set, Walls, Faces, Replace, Stack, Undo}
use Rattle.edit_terms.specs.declared.script.Line.{Line}
use Rattle.edit_terms.specs.declared.step.Refusal.{Refusal}
use Rattle.edit_terms.specs.declared.step.Work.{Work}
use Rattle.edit_terms.specs.declared.step.Work.TheVariants as work
use Rattle.edit_terms.specs.declared.step.Step.{Step}
use Rattle.edit_terms.specs.declared.step.Step.TheVariants.{Settled, Refused}
use Rattle.edit_terms.specs.Area.{Area}
use Rattle.edit_terms.specs.Frame.{shape_frame, frame_of, frame_of_selection, size_along}
use Rattle.run_terms.specs.Session.{Session, selection_from, selection_of, refusal_of, work_of, job_of, resolved_command, with_command, counted, step_of_line}
use Rattle.run_terms.specs.Access.{boxes_read, boxes_read_by, boxes_written, boxes_written_by, moved_box, stacked_boxes}
use Rattle.run_terms.proofs.LimitLemmas.{line_has}
use Rattle.access_laws.proofs.Scripts.{session_at, kept_by_commands}
use Rattle.world_gen.specs.Drill.{drill_area}
use Rattle.world_gen.proofs.ColumnLemmas.{IsOwnPosition, IsOwnBox, cuboid_own}

-- a command of the drill's kinds that sets no corner outside the player's columns and stacks upwards alone
abbrev pub IsOwnCommand : ℕ → Command → Type 0
IsOwnCommand player (Pos1 at) = IsOwnPosition player at
IsOwnCommand player (Pos2 at) = IsOwnPosition player at
IsOwnCommand player (Set pattern) = Unit {0}
IsOwnCommand player (Walls pattern) = Unit {0}
IsOwnCommand player (Faces pattern) = Unit {0}
IsOwnCommand player (Replace mask pattern) = Unit {0}
IsOwnCommand player (Stack count to) = to ≡ Up
IsOwnCommand player (Undo count) = Unit {0}
IsOwnCommand player _ = ⊥

module _ (player : ℕ) where
  -- the selection is a cuboid, and the corners that are set lie in the columns
  record IsOwnSession (s : Session) : Type 0 where
    kind : s.kind ≡ Cuboid
    first : IfSome s.first (IsOwnPosition player)
    second : IfSome s.second (IsOwnPosition player)

  -- the boxes that a work reads and writes lie in the columns, whatever the clipboard
  record IsOwnWork (made : Work) : Type 0 where
    read : All (IsOwnBox player) (boxes_read made)
    written : (clip : Option Clip) → All (IsOwnBox player) (boxes_written drill_area clip made)

  -- and those of a step
  pub record IsOwnStep (step : Step) : Type 0 where
    pub read : All (IsOwnBox player) (boxes_read_by step)
    pub written : All (IsOwnBox player) (boxes_written_by drill_area step)

  -- ---- the session after a command

  -- a command of its own keeps a session so
  with_command_own : (s : Session) (command : Command) → IsOwnCommand player command → IsOwnSession s → IsOwnSession (with_command s command)
  with_command_own s (Pos1 at) own h = record { kind = h.kind; first = own; second = h.second }
  with_command_own s (Pos2 at) own h = record { kind = h.kind; first = h.first; second = own }
  with_command_own s (Set pattern) own h = record { kind = h.kind; first = h.first; second = h.second }
  with_command_own s (Walls pattern) own h = record { kind = h.kind; first = h.first; second = h.second }
  with_command_own s (Faces pattern) own h = record { kind = h.kind; first = h.first; second = h.second }
  with_command_own s (Replace mask pattern) own h = record { kind = h.kind; first = h.first; second = h.second }
  with_command_own s (Stack count to) own h = record { kind = h.kind; first = h.first; second = h.second }
  with_command_own s (Undo count) own h = record { kind = h.kind; first = h.first; second = h.second }
  with_command_own s command own h = absurd own

  -- refused or not
  after_own : (s : Session) (command : Command) (refusal : Option Refusal) → IsOwnCommand player command → IsOwnSession s → IsOwnSession (counted (option_map_or (λ r. s) refusal (with_command s command)))
  after_own s command (Some r) own h = record { kind = h.kind; first = h.first; second = h.second }
  after_own s command None own h = let after = with_command_own s command own h in record { kind = after.kind; first = after.first; second = after.second }

  -- ---- the boxes of a command

  -- the box of the session's selection lies in the columns
  selection_own : (kind : Kind) (first second : Option Pos) → kind ≡ Cuboid → IfSome first (IsOwnPosition player) → IfSome second (IsOwnPosition player)
      → IfSome (selection_from kind first second) (λ from. IsOwnBox player (frame_of_selection from))
  selection_own kind (Some first) (Some second) is f s = subst (λ (k : Kind). IsOwnBox player (shape_frame k first second)) (sym is) (cuboid_own player first second f s)
  selection_own kind (Some first) None is f s = tt
  selection_own kind None second is f s = tt

  -- one box in the columns
  one_own : (box : Area) → IsOwnBox player box → All (IsOwnBox player) (box ∷ [])
  one_own box own = All-cons (IsOwnBox player) box [] own (All-nil (IsOwnBox player))

  -- boxes stacked upwards stay in the columns
  stacked_own : (count : ℕ) (box : Area) → IsOwnBox player box → All (IsOwnBox player) (stacked_boxes count Up box)
  stacked_own count box own = All-map (IsOwnBox player) (λ (i : ℕ). moved_box Up (i * size_along Up box) box) (range_with_len 1 count) (λ k d h. record { from = own.from; to = own.to })

  -- a fill of the selection
  filled_own : (place : Selection → Region) (mask : Option Mask) (pattern : Pattern) (o : Option Selection) → ((from : Selection) → frame_of (place from) ≡ frame_of_selection from)
      → IfSome o (λ from. IsOwnBox player (frame_of_selection from)) → IfSome (option_map (λ from. work.Fill (place from) mask pattern) o) IsOwnWork
  filled_own place mask pattern None same own = tt
  filled_own place mask pattern (Some from) same own = record {
    read = All-nil (IsOwnBox player);
    written = λ clip. one_own (frame_of (place from)) (subst (IsOwnBox player) (sym (same from)) own);
  }

  -- a stack upwards of the selection
  stack_own : (count : ℕ) (to : Direction) (o : Option Selection) → to ≡ Up → IfSome o (λ from. IsOwnBox player (frame_of_selection from)) → IfSome (option_map (λ from. work.Stack from count to) o) IsOwnWork
  stack_own count to None up own = tt
  stack_own count to (Some from) up own = record {
    read = one_own (frame_of_selection from) own;
    written = λ clip. subst (λ (t : Direction). All (IsOwnBox player) (stacked_boxes count t (frame_of_selection from))) (sym up) (stacked_own count (frame_of_selection from) own);
  }

  -- the work of each command
  work_own : (s : Session) (command : Command) → IsOwnCommand player command → IfSome (selection_of s) (λ from. IsOwnBox player (frame_of_selection from)) → IfSome (work_of s command) IsOwnWork
  work_own s (Pos1 at) own box = tt
  work_own s (Pos2 at) own box = tt
  work_own s (Set pattern) own box = filled_own (λ from. region.Selected from) None pattern (selection_of s) (λ from. refl) box
  work_own s (Walls pattern) own box = filled_own (λ from. region.Walls from) None pattern (selection_of s) (λ from. refl) box
  work_own s (Faces pattern) own box = filled_own (λ from. region.Faces from) None pattern (selection_of s) (λ from. refl) box
  work_own s (Replace mask pattern) own box = filled_own (λ from. region.Selected from) (Some mask) pattern (selection_of s) (λ from. refl) box
  work_own s (Stack count to) own box = stack_own count to (selection_of s) own box
  work_own s (Undo count) own box = record { read = All-nil (IsOwnBox player); written = λ clip. All-nil (IsOwnBox player) }
  work_own s command own box = absurd own

  -- the step of each command, refused or not
  step_own : (s : Session) (refusal : Option Refusal) (found : Option Work) → IfSome found IsOwnWork → IsOwnStep (option_map_or Refused refusal (option_map_or (job_of s) found Settled))
  step_own s (Some refusal) found own = record { read = All-nil (IsOwnBox player); written = All-nil (IsOwnBox player) }
  step_own s None None own = record { read = All-nil (IsOwnBox player); written = All-nil (IsOwnBox player) }
  step_own s None (Some made) own = record { read = own.read; written = own.written s.clip }

  -- ---- the whole script

  module _ (depth : ℕ) (lines : List Line) (all : All (λ line. IsOwnCommand player line.command) lines) where
    -- the session before each command
    session_own : (n : ℕ) → IsOwnSession (session_at player depth lines n)
    session_own =
        kept_by_commands player depth lines IsOwnSession (record { kind = refl; first = tt; second = tt })
        (λ n line is h.
        after_own (session_at player depth lines n) line.command (refusal_of (session_at player depth lines n) line.command)
        (line_has (λ l. IsOwnCommand player l.command) lines all n line is) h)

    -- what each command of the script reads and writes lies in the player's columns
    pub script_own : (n : ℕ) → IsOwnStep (step_of_line player depth lines n)
    script_own n = by_line (slice_get lines n) refl
      where
        by_line : (o : Option Line) → slice_get lines n ≡ o → IsOwnStep (option_map_or (λ line. resolved_command (session_at player depth lines n) line.command) o Settled)
        by_line None is = record { read = All-nil (IsOwnBox player); written = All-nil (IsOwnBox player) }
        by_line (Some line) is =
            let s = session_at player depth lines n in
            let h = session_own n in
            step_own s (refusal_of s line.command) (work_of s line.command)
            (work_own s line.command (line_has (λ l. IsOwnCommand player l.command) lines all n line is) (selection_own s.kind s.first s.second h.kind h.first h.second))
