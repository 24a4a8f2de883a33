-- A write job of a serial core makes its chunk's part of the world after its ticket, and the ticket's changes there.
--
-- What the job knows is true of the world before the ticket and holds all that the command needs: the chunk's own cells, the
-- captured ones of its selection, the clipboard's, and the kept changes of taken edits.
use Rattle.std.proofs.Common.{◌≡◌, ℕ, suc, ◌<◌, eqb, Bool, true, false, cond, ◌||◌, List, [], ◌∷◌, ◌++◌, length, take, Option, Some, None, refl, sym, ap, ◌∙◌, subst, arith}
use Rattle.std.specs.Prelude.{IfSome}
use Rattle.std.specs.Option.{option_map_or}
use Rattle.std.proofs.lemmas.Bool.{eq-eqb}
use Rattle.std.proofs.lemmas.List.Elements.{All-append}
use Rattle.std.proofs.lemmas.List.Folds.{list_any-append}
use Rattle.std.proofs.lemmas.Option.{IfSome_then}
use Rattle.edit_terms.specs.declared.clip.Clip.{Clip}
use Rattle.edit_terms.specs.declared.clip.Source.{Source}
use Rattle.edit_terms.specs.declared.region.Selection.{Selection}
use Rattle.edit_terms.specs.declared.step.Spec.{Spec}
use Rattle.edit_terms.specs.declared.step.Step.{Step}
use Rattle.edit_terms.specs.declared.step.Step.TheVariants.{Settled, Job, Refused}
use Rattle.edit_terms.specs.declared.step.Work.{Work}
use Rattle.edit_terms.specs.declared.step.Work.TheVariants.{Fill, Stack, Move, Copy, Cut, Paste, Put, Undo, Redo}
use Rattle.edit_terms.specs.Area.{Area, index_of, position_of, chunk_of, is_world_box}
use Rattle.edit_terms.specs.Clipboard.{clipboard_of, no_blocks}
use Rattle.edit_terms.specs.Frame.{IsSelection, frame_of_selection}
use Rattle.edit_terms.specs.World.{BlockContent, World}
use Rattle.run_terms.specs.Workload.{Workload}
use Rattle.run_terms.specs.Order.{lines_of, turns_of, player_of, source_of, ticket_of, step_of_command, step_of_ticket}
use Rattle.run_terms.specs.Change.{Change, content_of}
use Rattle.run_terms.specs.Effect.{world_after_step}
use Rattle.run_terms.specs.Fold.{clipboard_of_edit, edits_taken, edits_taken_by, taken_changes, task_of, world_after}
use Rattle.run_terms.specs.Limits.{IsWithinLimits}
use Rattle.run_terms.specs.Access.{boxes_read, boxes_read_by, chunk_part}
use Rattle.run_terms.specs.Needs.{selection_read, selection_read_by, needs_clipboard}
use Rattle.run_terms.proofs.Earlier.{clip_of}
use Rattle.run_terms.proofs.FoldLemmas.{follows_from_earlier, area-world_after}
use Rattle.run_terms.proofs.Tickets.{ticket_from-earlier}
use Rattle.access_laws.specs.Locality.{is_in_chunks, AgreeIn}
use Rattle.access_laws.specs.Needs.{HaveSameSources, IsOfEarlierCopy}
use Rattle.access_laws.proofs.ChunkEffects.{effects_in_chunk}
use Rattle.access_laws.proofs.Chunks.{or_first, or_second}
use Rattle.access_laws.proofs.Copies.{clip_of_copy}
use Rattle.access_laws.proofs.Parts.{same_number, agreement_by_parts}
use Rattle.access_laws.proofs.Sessions.{OnJob, IsSoundClip}
use Rattle.access_laws.proofs.Stays.{ticket_is_of, source_of_ticket, turns_of-take, command_is_sound}
use Rattle.access_laws.proofs.Writes.{HasPositions}
use Rattle.core_laws.specs.ChunkState.{ChunkState, placed_cells}
use Rattle.core_laws.specs.WriteJob.{world_of_cells, Handed, known_world, known_task, world_made, changes_made, chunk_written}
use Rattle.core_laws.specs.Core.{Core, writes_chunk, are_reads_done, is_clipboard_there, cells_captured, cells_copied, handed_to}
use Rattle.core_laws.specs.Serial.{recorded_by, serial_chunk, IsSerialChunk, KeepsTaken}
use Rattle.core_laws.proofs.Changes.{changes_in-same, taken_same}
use Rattle.core_laws.proofs.KnownCells.{AreTrueOf, has_place, Cover, known_content-true, content_of-cells, true_placed, has_placed, sources-known, clipboard_of-known}
use Rattle.core_laws.proofs.Parts.{cells_true, cells_cover}
use Rattle.core_laws.proofs.SerialSteps.{asked, write-serial}

-- what a work's selection is, and the box that it reads
record IsBoxed (work : Work) (from : Selection) : Type 0 where
  fits : IsSelection from
  selection : selection_read work ≡ Some from
  boxes : boxes_read work ≡ frame_of_selection from ∷ []

boxed : (work : Work) → HasPositions work → IfSome (selection_read work) (IsBoxed work)
boxed (Fill region mask pattern) is = tt
boxed (Stack from count to) is = record { fits = is; selection = refl; boxes = refl }
boxed (Move from count to) is = record { fits = is; selection = refl; boxes = refl }
boxed (Copy from) is = record { fits = is; selection = refl; boxes = refl }
boxed (Cut from) is = record { fits = is; selection = refl; boxes = refl }
boxed (Paste place skip_air) is = tt
boxed (Put at state) is = tt
boxed (Undo edits) is = tt
boxed (Redo edits) is = tt

-- one chunk alone
pub in_one : (area : Area) (chunk index : ℕ) → is_in_chunks area (chunk ∷ []) index ≡ true → chunk_of area (position_of area index) ≡ chunk
in_one area chunk index listed = by_test (eqb chunk (chunk_of area (position_of area index))) refl listed
  where
    by_test : (b : Bool) → eqb chunk (chunk_of area (position_of area index)) ≡ b → (b || false) ≡ true → chunk_of area (position_of area index) ≡ chunk
    by_test true is h = sym (same_number chunk (chunk_of area (position_of area index)) is)
    by_test false is h = absurd cc

pub one_in : (area : Area) (chunk index : ℕ) → chunk_of area (position_of area index) ≡ chunk → is_in_chunks area (chunk ∷ []) index ≡ true
one_in area chunk index here = or_first (eqb chunk (chunk_of area (position_of area index))) false (eq-eqb chunk (chunk_of area (position_of area index)) (sym here))

module _ (case : Workload) (limits : IsWithinLimits case) (fits : is_world_box case.opening.area ≡ true) (keeps : Source → Bool) (taken : KeepsTaken case keeps)
    (core : Core) (serial : (chunk : ℕ) → IsSerialChunk case keeps core.order chunk (core.chunks chunk)) (t : ℕ) (below : t < length core.order)
    (done : are_reads_done case core t ≡ true) (copied_there : is_clipboard_there case core (step_of_ticket case core.order t) ≡ true) (chunk : ℕ) where
  abbrev area : Area
  area = case.opening.area

  abbrev order : List ℕ
  order = core.order

  abbrev id : Source
  id = source_of order t

  abbrev w : World
  w = world_after case order t

  abbrev handed : Handed
  handed = handed_to case core id

  abbrev state : ChunkState
  state = serial_chunk case keeps order chunk (suc t) t

  abbrev known : List (ℕ × BlockContent)
  known = placed_cells area chunk state.cells ++ handed.own

  abbrev old : World
  old = known_world area chunk handed state

  abbrev made : World
  made = world_made case id t chunk handed state

  same_area : w.area ≡ area
  same_area = area-world_after case order t

  -- ---- what is known

  known_true : AreTrueOf w known
  known_true =
      All-append (λ cell. cell.1 ≡ content_of w cell.0) (placed_cells area chunk state.cells) handed.own (true_placed area w same_area chunk) (cells_true case keeps core serial t below)

  -- the chunk's blocks are known
  old_is : AgreeIn area (chunk ∷ []) old w
  old_is index inside listed =
      let there : has_place known index ≡ true =
      list_any-append (λ cell. eqb cell.0 index) (placed_cells area chunk state.cells) handed.own
      ∙ or_first (has_place (placed_cells area chunk state.cells) index) (has_place handed.own index) (has_placed area w same_area chunk index inside (in_one area chunk index listed)) in
      content_of-cells area known index inside ∙ known_content-true w known index known_true there

  -- so are the selected ones
  covered : (from : Selection) → IsSelection from → selection_read_by (step_of_ticket case order t) ≡ Some from → boxes_read_by (step_of_ticket case order t) ≡ frame_of_selection from ∷ [] → Cover area from known
  covered from is selection boxes q selected held =
      let index = index_of area q in
      list_any-append (λ cell. eqb cell.0 index) (placed_cells area chunk state.cells) handed.own
      ∙ or_second (has_place (placed_cells area chunk state.cells) index) (has_place handed.own index) (cells_cover case keeps core serial t below done from is selection boxes q selected held)

  sources : (spec : Spec) → step_of_ticket case order t ≡ Job spec → HasPositions spec.work → IfSome (selection_read spec.work) (λ from. HaveSameSources from old w)
  sources spec is positions =
      IfSome_then (selection_read spec.work) (boxed spec.work positions) (λ from h.
      sources-known area w same_area known known_true from (covered from h.fits (ap selection_read_by is ∙ h.selection) (ap boxes_read_by is ∙ h.boxes)))

  -- ---- the clipboard

  module _ (spec : Spec) (is : step_of_ticket case order t ≡ Job spec) (needed : needs_clipboard spec.work ≡ true) where
    by_clip : (clip : Option Clip) → spec.clip ≡ clip → IfSome clip (IsSoundClip id.player case.depth (lines_of case.scripts id.player)) → IfSome clip (IsOfEarlierCopy case id)
        → option_map_or (λ c. clipboard_of c (world_of_cells area handed.copied)) clip no_blocks ≡ clipboard_of_edit order (world_after case order) clip
    by_clip None some sound copy = refl
    by_clip (Some c) some sound copy =
        let k = ticket_of order c.source in
        let early : c.source.step < turns_of c.source.player (take t order) = subst (λ (p : ℕ). c.source.step < turns_of p (take t order)) (sym copy.own) copy.earlier in
        let less : k < t = ticket_from-earlier order c.source.player c.source.step t early in
        let few : c.source.step < turns_of c.source.player order = omega (arith, early, turns_of-take order c.source.player t) in
        let named : source_of order k ≡ c.source = source_of_ticket order c.source.player c.source.step k (ticket_is_of order c.source.player c.source.step few) in
        let drawn : k < length order = omega (arith, less, below) in
        let handed_is : handed.copied ≡ cells_captured case core (source_of order k) =
        ap (cells_copied case core) is
        ∙ (λ i. cond (needed i) (option_map_or (λ (o : Clip). cells_captured case core o.source) (some i) []) []) ∙ ap (cells_captured case core) (sym named) in
        let read : are_reads_done case core k ≡ true =
        ap (λ (o : Option Clip). option_map_or (λ (e : Clip). are_reads_done case core (ticket_of order e.source)) o true) (sym some)
        ∙ asked (needs_clipboard spec.work) (option_map_or (λ e. are_reads_done case core (ticket_of order e.source)) spec.clip true) needed
        (subst (λ (step : Step). is_clipboard_there case core step ≡ true) is copied_there) in
        let boxes : boxes_read_by (step_of_ticket case order k) ≡ frame_of_selection c.from ∷ [] =
        ap (λ (s : Source). boxes_read_by (step_of_command case s)) named
        ∙ subst (λ (p : ℕ). boxes_read_by (step_of_command case (record { player = p; step = c.source.step })) ≡ frame_of_selection c.from ∷ []) (sym sound.own) sound.read in
        let cover = cells_cover case keeps core serial k drawn read c.from sound.fits (ap (λ (s : Source). selection_read_by (step_of_command case s)) named ∙ copy.selection) boxes in
        ap (λ (cells : List (ℕ × BlockContent)). clipboard_of c (world_of_cells area cells)) handed_is
        ∙ clipboard_of-known area (world_after case order k) (area-world_after case order k) (cells_captured case core (source_of order k)) (cells_true case keeps core serial k drawn) c cover

  clipboard : (spec : Spec) → step_of_ticket case order t ≡ Job spec → needs_clipboard spec.work ≡ true
      → option_map_or (λ c. clipboard_of c (world_of_cells area handed.copied)) spec.clip no_blocks ≡ clipboard_of_edit order (world_after case order) spec.clip
  clipboard spec is needed =
      by_clip spec is needed spec.clip refl
      (subst (λ (step : Step). IfSome (clip_of step) (IsSoundClip id.player case.depth (lines_of case.scripts id.player))) is (command_is_sound case limits id).clip)
      (subst (λ (step : Step). IfSome (clip_of step) (IsOfEarlierCopy case id)) is (clip_of_copy case limits id))

  -- ---- the effect

  by_step : (step : Step) → step_of_ticket case order t ≡ step
      → AgreeIn area (chunk ∷ []) (world_after_step (known_task case id t handed state) step old) (world_after_step (task_of case order t (world_after case order)) step w)
  by_step Settled is = old_is
  by_step (Refused refusal) is = old_is
  by_step (Job spec) is =
      let positions = (subst (λ (step : Step). OnJob step (λ s. HasPositions s.work)) is (command_is_sound case limits id).positions) in
      effects_in_chunk area chunk (known_task case id t handed state spec) (clipboard_of_edit order (world_after case order) spec.clip) (taken_changes order (world_after case order) (player_of order t) (edits_taken spec.work)) old w
      (record {
        first = refl;
        second = same_area;
        contents = old_is;
        sources = sources spec is positions;
        clipboard = clipboard spec is;
        changes = λ index inside listed. taken_same case limits fits keeps order t below chunk index inside (in_one area chunk index listed) taken (edits_taken spec.work) (ap edits_taken_by is);
      })

  made_is : AgreeIn area (chunk ∷ []) made (world_after case order (suc t))
  made_is = subst (λ (v : World). AgreeIn area (chunk ∷ []) made v) (sym (follows_from_earlier case order t)) (by_step (step_of_ticket case order t) refl)

  area_made : (step : Step) → (world_after_step (known_task case id t handed state) step old).area ≡ area
  area_made Settled = refl
  area_made (Refused refusal) = refl
  area_made (Job spec) = refl

  part_made : chunk_part made chunk ≡ chunk_part (world_after case order (suc t)) chunk
  part_made =
      (agreement_by_parts area (chunk ∷ []) made (world_after case order (suc t)) (area_made (step_of_command case id)) (area-world_after case order (suc t))).parts made_is chunk
      (or_first (eqb chunk chunk) false (eq-eqb chunk chunk refl))

  recorded : changes_made case id t chunk handed state ≡ recorded_by case order chunk t
  recorded =
      ap (λ (changes : List Change). record { source = id; changes = changes })
      (changes_in-same area chunk old made w (world_after case order (suc t)) refl same_area
      (λ k inside here. old_is k inside (one_in area chunk k here)) (λ k inside here. made_is k inside (one_in area chunk k here)))

  -- the write job leads to the next serial state of its chunk
  pub write_step : writes_chunk case order chunk t ≡ true → chunk_written case keeps id t chunk handed state ≡ serial_chunk case keeps order chunk (suc t) (suc t)
  write_step is = write-serial case limits fits keeps order chunk t is (chunk_part made chunk) part_made (changes_made case id t chunk handed state) recorded
