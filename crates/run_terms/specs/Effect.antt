-- What a command does to the world, one position at a time. Every read is of the world before its ticket; a position
-- that no line changes keeps its content.
use Rattle.std.specs.Prelude.{◌≡◌, ℕ, ◌*◌, Bool, true, ◌&&◌, not, if◌then◌else◌, List, map, reverse, pos, neg_ℤ, Option, ◌==◌}
use Rattle.std.specs.List.{range_with_len, find, flat_map}
use Rattle.std.specs.Option.{option_map_or}
use Rattle.edit_terms.specs.declared.direction.Direction.{Direction}
use Rattle.edit_terms.specs.declared.mask.Mask.{Mask}
use Rattle.edit_terms.specs.declared.pattern.Pattern.{Pattern}
use Rattle.edit_terms.specs.declared.pos.Pos.{Pos}
use Rattle.edit_terms.specs.declared.region.Region.{Region}
use Rattle.edit_terms.specs.declared.region.Selection.{Selection}
use Rattle.edit_terms.specs.declared.step.Work.{Work}
use Rattle.edit_terms.specs.declared.step.Work.TheVariants.{Fill, Stack, Move, Copy, Cut, Paste, Put, Undo, Redo}
use Rattle.edit_terms.specs.declared.step.Spec.{Spec}
use Rattle.edit_terms.specs.declared.step.Step.{Step}
use Rattle.edit_terms.specs.declared.step.Step.TheVariants.{Settled, Job, Refused}
use Rattle.edit_terms.specs.Area.{holds, position_of, volume}
use Rattle.edit_terms.specs.Neighbour.{away}
use Rattle.edit_terms.specs.Region.{is_inside, is_selected}
use Rattle.edit_terms.specs.Frame.{frame_of_selection, size_along}
use Rattle.edit_terms.specs.StateText.{State, is_air}
use Rattle.edit_terms.specs.Draw.{mask_use, global_mask_use}
use Rattle.edit_terms.specs.Mask.{Scene, is_allowed}
use Rattle.edit_terms.specs.Clipboard.{CopiedBlocks, relative_to}
use Rattle.edit_terms.specs.Pattern.{pattern_value}
use Rattle.edit_terms.specs.Grid.{is_same_pos}
use Rattle.edit_terms.specs.World.{BlockContent, World, content_at, without_entity, air_content}
use Rattle.run_terms.specs.Change.{Change, content_of}

-- What a job reads beside the world: its resolved command, the run's seed and the ticket, the clipboard that the
-- command names, and the changes of the edits that it takes back or does again, in the order in which they are taken.
pub record Task : Type 0 where
  pub spec : Spec
  pub seed : ℕ
  pub ticket : ℕ
  pub copied : CopiedBlocks
  pub taken : List (List Change)

-- what the masks of a job read: the world before it, its selection, the seed and the ticket
abbrev pub scene_of : Task → World → Scene
scene_of task w = record { world = w; selection = task.spec.selection; seed = task.seed; ticket = task.ticket }

-- the global mask holds at the position, if there is one
abbrev pub passes_global : Task → World → Pos → Bool
passes_global task w p = is_allowed task.spec.global global_mask_use (scene_of task w) p

-- the position belongs to the region, and the command's mask and the global mask hold there
abbrev pub is_filled : Region → Option Mask → Task → World → Pos → Bool
is_filled region mask task w p = is_inside region p && is_allowed mask mask_use (scene_of task w) p && passes_global task w p

-- a fill puts the pattern's content at each position that it fills
abbrev pub filled : Region → Option Mask → Pattern → Task → World → ℕ → BlockContent
filled region mask pattern task w index =
    let p = position_of w.area index in
    if is_filled region mask task w p then pattern_value pattern task.copied task.seed task.ticket p (content_of w index)
    else content_of w index

-- the position is a selected one of the box
abbrev pub is_source : Selection → World → Pos → Bool
is_source from w q = is_selected from q && holds w.area q

-- the position from which a stack's copy of this number comes to a position, if it is selected: each copy is as far from
-- the last as the selection's frame is long in the direction
abbrev pub copy_source : Selection → Direction → Pos → ℕ → Pos
copy_source from to p number = away to (neg_ℤ (pos (number * size_along to (frame_of_selection from)))) p

-- these positions, for the copies from the first on
abbrev pub stacked_from : Selection → ℕ → Direction → Pos → List Pos
stacked_from from count to p = map (copy_source from to p) (range_with_len 1 count)

-- at most one copy of a stack comes to a position
abbrev pub ComesFromOneCopy : Selection → Direction → Pos → Type 0
ComesFromOneCopy from to p = (i j : ℕ) → is_selected from (copy_source from to p i) ≡ true → is_selected from (copy_source from to p j) ≡ true → i ≡ j

-- a stack repeats the selected positions of the box
abbrev pub stacked : Selection → ℕ → Direction → Task → World → ℕ → BlockContent
stacked from count to task w index =
    let p = position_of w.area index in
    if passes_global task w p then option_map_or (content_at w) (find (is_source from w) (stacked_from from count to p)) (content_of w index)
    else content_of w index

-- a move brings the selected positions of the box so many blocks on, and leaves air where nothing comes
abbrev pub moved : Selection → ℕ → Direction → Task → World → ℕ → BlockContent
moved from count to task w index =
    let p = position_of w.area index in
    let q = away to (neg_ℤ (pos count)) p in
    if not (passes_global task w p) then content_of w index
    else (if is_source from w q then content_at w q
    else (if is_selected from p then air_content else content_of w index))

-- a cut leaves air
abbrev pub cut : Selection → Task → World → ℕ → BlockContent
cut from task w index =
    let p = position_of w.area index in
    if is_selected from p && passes_global task w p then air_content else content_of w index

-- a paste puts what the clipboard has there, perhaps without its air
abbrev pub pasted : Pos → Bool → Task → World → ℕ → BlockContent
pasted place skip_air task w index =
    let p = position_of w.area index in
    option_map_or (λ c. if passes_global task w p && not (skip_air && is_air c.state) then c else content_of w index) (task.copied.at (relative_to place p)) (content_of w index)

-- a single block; no mask limits it
abbrev pub put : Pos → State → World → ℕ → BlockContent
put at state w index = if is_same_pos at (position_of w.area index) then without_entity state else content_of w index

-- the change of a place in the last of the taken edits that changed it
abbrev pub latest_change : List (List Change) → ℕ → Option Change
latest_change taken index = find (λ change. change.index == index) (flat_map (λ changes. changes) (reverse taken))

-- an undo brings back the content before the edit, a redo that after it; no mask limits them
abbrev pub undone : Task → World → ℕ → BlockContent
undone task w index = option_map_or (λ change. change.before) (latest_change task.taken index) (content_of w index)

abbrev pub redone : Task → World → ℕ → BlockContent
redone task w index = option_map_or (λ change. change.after) (latest_change task.taken index) (content_of w index)

-- The content after a ticket's work at a place of the box's list. A copy changes nothing.
abbrev pub effect_of : Work → Task → World → ℕ → BlockContent
effect_of (Fill region mask pattern) task w index = filled region mask pattern task w index
effect_of (Stack from count to) task w index = stacked from count to task w index
effect_of (Move from count to) task w index = moved from count to task w index
effect_of (Copy from) task w index = content_of w index
effect_of (Cut from) task w index = cut from task w index
effect_of (Paste place skip_air) task w index = pasted place skip_air task w index
effect_of (Put at state) task w index = put at state w index
effect_of (Undo edits) task w index = undone task w index
effect_of (Redo edits) task w index = redone task w index

abbrev pub effect_at : Task → World → ℕ → BlockContent
effect_at task w index = effect_of task.spec.work task w index

-- the world after a ticket's job
abbrev pub world_with : Task → World → World
world_with task w = record w { contents = map (effect_at task w) (range_with_len 0 (volume w.area)) }

-- The world after a ticket: only a job changes it. What a job with a resolved command reads beside the world is given.
abbrev pub world_after_step : (Spec → Task) → Step → World → World
world_after_step task_of (Job spec) w = world_with (task_of spec) w
world_after_step task_of Settled w = w
world_after_step task_of (Refused refusal) w = w
