-- What a player's session holds where the commands keep the limits: the clipboard of a copy that read its selection's
-- box, and a history of commands that take no edits themselves; and that positions on the map fit 32 bits.
use Rattle.std.proofs.Common.{◌≡◌, ℕ, ◌-◌, true, ◌&&◌, List, [], ◌∷◌, ◌++◌, length, take, drop, ℤ, pos, negsuc, ◌+ℤ◌, ◌≤ℤ◌, Option, Some, None, refl, sym, ap, ◌∙◌, subst, arith}
use Rattle.std.specs.Prelude.{All, IfSome, IsTrue, reverse, option_map, slice_get, FitsSigned}
use Rattle.std.specs.Int.{w32}
use Rattle.std.specs.Option.{option_map_or}
use Rattle.std.proofs.lemmas.Bool.{and_parts}
use Rattle.std.proofs.lemmas.Int.{ints}
use Rattle.std.proofs.lemmas.List.{length-take-le}
use Rattle.std.proofs.lemmas.List.Elements.{All-nil, All-push, All-take, All-drop}
use Rattle.std.proofs.lemmas.Option.{IfSome_then, slice_get_within}
use Rattle.edit_terms.specs.declared.pos.Pos.{Pos}
use Rattle.edit_terms.specs.declared.region.Selection.{Selection}
use Rattle.edit_terms.specs.declared.transform.Transform.{Transform}
use Rattle.edit_terms.specs.declared.clip.Clip.{Clip}
use Rattle.edit_terms.specs.declared.script.Command.{Command}
use Rattle.edit_terms.specs.declared.script.Command.TheVariants.{Set, Walls, Faces, Replace, Sphere, Cyl, Stack, Move, Copy, Cut, Paste, Rotate, Flip, Undo, Redo}
use Rattle.edit_terms.specs.declared.script.Line.{Line}
use Rattle.edit_terms.specs.declared.step.Refusal.{Refusal}
use Rattle.edit_terms.specs.declared.step.Spec.{Spec}
use Rattle.edit_terms.specs.declared.step.Work.{Work}
use Rattle.edit_terms.specs.declared.step.Work.TheVariants as work
use Rattle.edit_terms.specs.declared.step.Step.{Step}
use Rattle.edit_terms.specs.declared.step.Step.TheVariants.{Settled, Job, Refused}
use Rattle.edit_terms.specs.declared.region.Region.{Region}
use Rattle.edit_terms.specs.declared.region.Region.TheVariants as region
use Rattle.edit_terms.specs.declared.region.Region.TheVariants.{Selected, Walls, Faces, Ball, Tube}
use Rattle.edit_terms.specs.Area.{is_from, is_on_map}
use Rattle.edit_terms.specs.Frame.{IsPosition, IsRegion, IsSelection, frame_of_selection}
use Rattle.edit_terms.specs.Transform.{then_turn, then_flip}
use Rattle.run_terms.specs.Session.{Session, selection_of, entered, refusal_of, work_of, job_of, resolved_command, clip_from, with_copy, with_command, counted, after_command, step_of_line}
use Rattle.run_terms.specs.Fold.{edits_taken, edits_taken_by}
use Rattle.run_terms.specs.Limits.{is_count, is_optional_mask_within, is_pattern_within, is_command_within}
use Rattle.run_terms.specs.SessionLimits.{is_selection_within, is_region_within, is_work_within, IsSessionWithin, IsStepWithin}
use Rattle.run_terms.specs.Access.{boxes_read, boxes_read_by}
use Rattle.run_terms.specs.Needs.{selection_read, selection_read_by}
use Rattle.run_terms.proofs.Lists.{All-reverse}
use Rattle.run_terms.proofs.Earlier.{clip_of, session_has_taken}
use Rattle.run_terms.proofs.LimitLemmas.{line_has}
use Rattle.run_terms.proofs.SessionLimitLemmas.{selected, step_within, session_keeps_limits}
use Rattle.access_laws.proofs.Scripts.{session_at, step_is, kept_by_commands}
use Rattle.access_laws.proofs.Writes.{HasPositions}

-- ---- positions on the map

within_fits : (low : ℤ) (n : ℕ) (v : ℤ) → negsuc 33554431 ≤ℤ low → (low +ℤ pos n) ≤ℤ pos 33554432 → is_from low n v ≡ true → FitsSigned w32 v
within_fits low n v from to h = grind (arith, ints)

position_fits : (p : Pos) → is_on_map p ≡ true → IsPosition p
position_fits p h =
    let first = and_parts (is_from (negsuc 33554431) 67108864 p.x && is_from (negsuc 2047) 4096 p.y) (is_from (negsuc 33554431) 67108864 p.z) h in
    let two = and_parts (is_from (negsuc 33554431) 67108864 p.x) (is_from (negsuc 2047) 4096 p.y) first.0 in
    record {
      x = within_fits (negsuc 33554431) 67108864 p.x (omega (arith, ints)) (omega (arith, ints)) two.0;
      y = within_fits (negsuc 2047) 4096 p.y (omega (arith, ints)) (omega (arith, ints)) two.1;
      z = within_fits (negsuc 33554431) 67108864 p.z (omega (arith, ints)) (omega (arith, ints)) first.1;
    }

selection_fits : (s : Selection) → is_selection_within s ≡ true → IsSelection s
selection_fits s h = let parts = and_parts (is_on_map s.first) (is_on_map s.second) h in record { first = position_fits s.first parts.0; second = position_fits s.second parts.1 }

region_fits : (r : Region) → is_region_within r ≡ true → IsRegion r
region_fits (Selected s) h = selection_fits s h
region_fits (Walls s) h = selection_fits s h
region_fits (Faces s) h = selection_fits s h
region_fits (Ball centre radius hollow) h = tt
region_fits (Tube centre radius height hollow) h = tt

work_fits : (w : Work) → is_work_within w ≡ true → HasPositions w
work_fits (work.Fill region mask pattern) h =
    region_fits region (and_parts (is_region_within region) (is_optional_mask_within mask) (and_parts (is_region_within region && is_optional_mask_within mask) (is_pattern_within pattern) h).0).0
work_fits (work.Stack from count to) h = selection_fits from (and_parts (is_selection_within from) (is_count count) h).0
work_fits (work.Move from count to) h = selection_fits from (and_parts (is_selection_within from) (is_count count) h).0
work_fits (work.Copy from) h = selection_fits from h
work_fits (work.Cut from) h = selection_fits from h
work_fits (work.Paste place skip_air) h = tt
work_fits (work.Put at state) h = tt
work_fits (work.Undo edits) h = tt
work_fits (work.Redo edits) h = tt

-- ---- what a step is of

-- this of a job's spec
abbrev pub OnJob : Step → (Spec → Type 0) → Type 0
OnJob (Job spec) P = P spec
OnJob _ P = Unit {0}

module _ (player depth : ℕ) (lines : List Line) where
  -- what the command of this number is
  abbrev step_at : ℕ → Step
  step_at n = step_of_line player depth lines n

  -- a clipboard of the player, whose selection fits, and whose copy read that selection
  pub record IsSoundClip (c : Clip) : Type 0 where
    pub own : c.source.player ≡ player
    pub fits : IsSelection c.from
    pub read : boxes_read_by (step_of_line player depth lines c.source.step) ≡ frame_of_selection c.from ∷ []
    pub selection : selection_read_by (step_of_line player depth lines c.source.step) ≡ Some c.from

  -- a command that takes no edits
  abbrev pub TakesNone : ℕ → Type 0
  TakesNone n = edits_taken_by (step_of_line player depth lines n) ≡ []

  pub record IsSoundSession (s : Session) : Type 0 where
    pub clip : IfSome s.clip IsSoundClip
    pub edits : All TakesNone s.edits

  -- what a step needs
  pub record IsSoundStep (step : Step) : Type 0 where
    pub positions : OnJob step (λ spec. HasPositions spec.work)
    pub clip : IfSome (clip_of step) IsSoundClip
    pub taken : All TakesNone (edits_taken_by step)

  -- ---- the session after a command

  copy_sound : (s : Session) (make : Selection → Work) → ((from : Selection) → boxes_read (make from) ≡ frame_of_selection from ∷ []) → ((from : Selection) → selection_read (make from) ≡ Some from) → s.player ≡ player
      → (sel : Option Selection) (place : Option Pos) → IfSome sel IsSelection → step_at s.number ≡ option_map_or (job_of s) (option_map make sel) Settled → IfSome (clip_from s sel place) IsSoundClip
  copy_sound s make reads selects own (Some from) (Some origin) fits is = record { own = own; fits = fits; read = ap boxes_read_by is ∙ reads from; selection = ap selection_read_by is ∙ selects from }
  copy_sound s make reads selects own (Some from) None fits is = tt
  copy_sound s make reads selects own None place fits is = tt

  turned_sound : (change : Transform → Transform) (clip : Option Clip) → IfSome clip IsSoundClip → IfSome (option_map (λ (c : Clip). record c { transform = change c.transform }) clip) IsSoundClip
  turned_sound change (Some c) h = record { own = h.own; fits = h.fits; read = h.read; selection = h.selection }
  turned_sound change None h = tt

  none_taken : (s : Session) {A : Type 0} (make : A → Work) (o : Option A) → ((a : A) → edits_taken (make a) ≡ []) → edits_taken_by (option_map_or (job_of s) (option_map make o) Settled) ≡ []
  none_taken s make None none = refl
  none_taken s make (Some a) none = none a

  entered_sound : (s : Session) (clip : IfSome s.clip IsSoundClip) → All TakesNone s.edits → TakesNone s.number → IsSoundSession (entered s)
  entered_sound s clip edits own =
      let kept = take s.cursor s.edits in
      let all = kept ++ s.number ∷ [] in
      record { clip = clip; edits = All-drop TakesNone (length all - s.depth) all (All-push TakesNone kept s.number (All-take TakesNone s.cursor s.edits edits) own) }

  module _ (s : Session) (own : s.player ≡ player) (limits : IsSessionWithin s) (h : IsSoundSession s) where
    fits : IfSome (selection_of s) IsSelection
    fits = IfSome_then (selection_of s) (selected s limits) selection_fits

    edited : {A : Type 0} (make : A → Work) (o : Option A) → ((a : A) → edits_taken (make a) ≡ []) → step_at s.number ≡ option_map_or (job_of s) (option_map make o) Settled → IsSoundSession (entered s)
    edited make o none is = entered_sound s h.clip h.edits (ap edits_taken_by is ∙ none_taken s make o none)

    with_command_sound : (command : Command) → step_at s.number ≡ option_map_or (job_of s) (work_of s command) Settled → IsSoundSession (with_command s command)
    with_command_sound Copy is = record { clip = copy_sound s (λ from. work.Copy from) (λ from. refl) (λ from. refl) own (selection_of s) s.place fits is; edits = h.edits }
    with_command_sound Cut is =
        entered_sound (with_copy s) (copy_sound s (λ from. work.Cut from) (λ from. refl) (λ from. refl) own (selection_of s) s.place fits is) h.edits
        (ap edits_taken_by is ∙ none_taken s (λ from. work.Cut from) (selection_of s) (λ a. refl))
    with_command_sound (Rotate quarters) is = record { clip = turned_sound (λ t. then_turn t quarters) s.clip h.clip; edits = h.edits }
    with_command_sound (Flip to) is = record { clip = turned_sound (λ t. then_flip t to) s.clip h.clip; edits = h.edits }
    with_command_sound (Set pattern) is = edited (λ from. work.Fill (region.Selected from) None pattern) (selection_of s) (λ a. refl) is
    with_command_sound (Walls pattern) is = edited (λ from. work.Fill (region.Walls from) None pattern) (selection_of s) (λ a. refl) is
    with_command_sound (Faces pattern) is = edited (λ from. work.Fill (region.Faces from) None pattern) (selection_of s) (λ a. refl) is
    with_command_sound (Replace mask pattern) is = edited (λ from. work.Fill (region.Selected from) (Some mask) pattern) (selection_of s) (λ a. refl) is
    with_command_sound (Sphere pattern radius hollow) is = edited (λ centre. work.Fill (region.Ball centre radius hollow) None pattern) s.place (λ a. refl) is
    with_command_sound (Cyl pattern radius height hollow) is = edited (λ centre. work.Fill (region.Tube centre radius height hollow) None pattern) s.place (λ a. refl) is
    with_command_sound (Stack count to) is = edited (λ from. work.Stack from count to) (selection_of s) (λ a. refl) is
    with_command_sound (Move count to) is = edited (λ from. work.Move from count to) (selection_of s) (λ a. refl) is
    with_command_sound (Paste skip_air) is = edited (λ place. work.Paste place skip_air) s.place (λ a. refl) is
    with_command_sound command is = record { clip = h.clip; edits = h.edits }

    after_sound : (command : Command) (refusal : Option Refusal) → step_at s.number ≡ option_map_or Refused refusal (option_map_or (job_of s) (work_of s command) Settled)
        → IsSoundSession (counted (option_map_or (λ r. s) refusal (with_command s command)))
    after_sound command (Some r) is = record { clip = h.clip; edits = h.edits }
    after_sound command None is = let n = with_command_sound command is in record { clip = n.clip; edits = n.edits }

    -- ---- the step of a command

    none_of : {A : Type 0} (make : A → Work) (o : Option A) → ((a : A) → edits_taken (make a) ≡ []) → All TakesNone (option_map_or edits_taken (option_map make o) [])
    none_of make None none = All-nil TakesNone
    none_of make (Some a) none = subst (λ (xs : List ℕ). All TakesNone xs) (sym (none a)) (All-nil TakesNone)

    work_takes : (command : Command) → All TakesNone (option_map_or edits_taken (work_of s command) [])
    work_takes (Undo count) = All-take TakesNone count (reverse (take s.cursor s.edits)) (All-reverse TakesNone (take s.cursor s.edits) (All-take TakesNone s.cursor s.edits h.edits))
    work_takes (Redo count) = All-take TakesNone count (drop s.cursor s.edits) (All-drop TakesNone s.cursor s.edits h.edits)
    work_takes (Set pattern) = none_of _ (selection_of s) (λ a. refl)
    work_takes (Walls pattern) = none_of _ (selection_of s) (λ a. refl)
    work_takes (Faces pattern) = none_of _ (selection_of s) (λ a. refl)
    work_takes (Replace mask pattern) = none_of _ (selection_of s) (λ a. refl)
    work_takes (Sphere pattern radius hollow) = none_of _ s.place (λ a. refl)
    work_takes (Cyl pattern radius height hollow) = none_of _ s.place (λ a. refl)
    work_takes (Stack count to) = none_of _ (selection_of s) (λ a. refl)
    work_takes (Move count to) = none_of _ (selection_of s) (λ a. refl)
    work_takes Copy = none_of _ (selection_of s) (λ a. refl)
    work_takes Cut = none_of _ (selection_of s) (λ a. refl)
    work_takes (Paste skip_air) = none_of _ s.place (λ a. refl)
    work_takes command = All-nil TakesNone

    step_sound : (refusal : Option Refusal) (found : Option Work) → IsStepWithin (option_map_or Refused refusal (option_map_or (job_of s) found Settled)) → All TakesNone (option_map_or edits_taken found [])
        → IsSoundStep (option_map_or Refused refusal (option_map_or (job_of s) found Settled))
    step_sound (Some refusal) found within taken = record { positions = tt; clip = tt; taken = All-nil TakesNone }
    step_sound None None within taken = record { positions = tt; clip = tt; taken = All-nil TakesNone }
    step_sound None (Some work) within taken = record { positions = work_fits work within.work; clip = h.clip; taken = taken }

  -- ---- the whole script

  module _ (within : All (λ line. IsTrue (is_command_within line.command)) lines) where
    -- the session before the command of this number keeps its limits
    limited : (n : ℕ) → IsSessionWithin (session_at player depth lines n)
    limited n = session_keeps_limits player depth (take n lines) (All-take (λ (line : Line). IsTrue (is_command_within line.command)) n lines within)

    session_sound : (n : ℕ) → IsSoundSession (session_at player depth lines n)
    session_sound = kept_by_commands player depth lines IsSoundSession (record { clip = tt; edits = All-nil TakesNone }) keeps
      where
        keeps : (n : ℕ) (line : Line) → slice_get lines n ≡ Some line → IsSoundSession (session_at player depth lines n) → IsSoundSession (after_command (session_at player depth lines n) line.command)
        keeps n line is h =
            let s = session_at player depth lines n in
            let inside = slice_get_within lines n line is in
            let taken = session_has_taken player depth (take n lines) in
            let counts : s.number ≡ n = taken.number ∙ length-take-le n lines (omega (arith, inside)) in
            let step : step_at s.number ≡ resolved_command s line.command = ap (λ (k : ℕ). step_at k) counts ∙ step_is player depth lines n line is in
            after_sound s taken.remembers.own (limited n) h line.command (refusal_of s line.command) step

    -- what a command of a script within the limits needs is there
    pub step_is_sound : (n : ℕ) → IsSoundStep (step_of_line player depth lines n)
    step_is_sound n = by_line (slice_get lines n) refl
      where
        by_line : (o : Option Line) → slice_get lines n ≡ o → IsSoundStep (option_map_or (λ line. resolved_command (session_at player depth lines n) line.command) o Settled)
        by_line None is = record { positions = tt; clip = tt; taken = All-nil TakesNone }
        by_line (Some line) is =
            let s = session_at player depth lines n in
            let own = (session_has_taken player depth (take n lines)).remembers.own in
            let keeps = step_within s (limited n) line.command (line_has (λ l. IsTrue (is_command_within l.command)) lines within n line is) in
            step_sound s own (limited n) (session_sound n) (refusal_of s line.command) (work_of s line.command) keeps (work_takes s own (limited n) (session_sound n) line.command)
