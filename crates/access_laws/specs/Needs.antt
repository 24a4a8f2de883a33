-- What a command's effect needs: the selection whose blocks it reads, the clipboard where its work puts blocks of one, and
-- the latest taken change at each place. And what a ticket leaves alone.
use Rattle.std.specs.Prelude.{◌≡◌, ℕ, suc, ◌<◌, true, false, List, [], ◌∷◌, ℤ, Some, IfSome}
use Rattle.edit_terms.specs.declared.clip.Clip.{Clip}
use Rattle.edit_terms.specs.declared.clip.Source.{Source}
use Rattle.edit_terms.specs.declared.pos.Pos.{Pos}
use Rattle.edit_terms.specs.declared.region.Selection.{Selection}
use Rattle.edit_terms.specs.declared.step.Spec.{Spec}
use Rattle.edit_terms.specs.declared.step.Step.TheVariants.{Job}
use Rattle.edit_terms.specs.Area.{Area, position_of, volume}
use Rattle.edit_terms.specs.Clipboard.{CopiedBlocks}
use Rattle.edit_terms.specs.World.{World, content_at, state_at}
use Rattle.run_terms.specs.Workload.{Workload}
use Rattle.run_terms.specs.Order.{step_of_command}
use Rattle.run_terms.specs.Change.{Change, content_of}
use Rattle.run_terms.specs.Effect.{Task, is_source, latest_change, effect_at, world_with}
use Rattle.run_terms.specs.Fold.{world_after}
use Rattle.run_terms.specs.Access.{chunk_part, chunks_written}
use Rattle.run_terms.specs.Needs.{selection_read, selection_read_by, needs_clipboard}
use Rattle.access_laws.specs.Locality.{is_among, is_in_chunks, AgreeIn}

-- the selected blocks of the first world are the same in the other
abbrev pub HaveSameSources : Selection → World → World → Type 0
HaveSameSources from w v = (q : Pos) → is_source from w q ≡ true → content_at w q ≡ content_at v q

-- the states in the column of blocks of a place are the same
abbrev pub HaveSameColumn : World → World → ℕ → Type 0
HaveSameColumn w v index = (y : ℤ) → state_at w (record (position_of w.area index) { y = y }) ≡ state_at v (record (position_of v.area index) { y = y })

-- A job has what it needs at a place alike, from one world, and from another with another clipboard and other lists of
-- taken changes.
pub record HasSameNeeds (task : Task) (copied : CopiedBlocks) (taken : List (List Change)) (w v : World) (index : ℕ) : Type 0 where
  pub area : w.area ≡ v.area
  pub content : content_of w index ≡ content_of v index
  pub column : HaveSameColumn w v index
  pub sources : IfSome (selection_read task.spec.work) (λ from. HaveSameSources from w v)
  pub clipboard : needs_clipboard task.spec.work ≡ true → task.copied ≡ copied
  pub changes : latest_change task.taken index ≡ latest_change taken index

-- then its effect there is the same
abbrev pub EffectsDependOnNeeds : Task → CopiedBlocks → List (List Change) → World → World → ℕ → Type 0
EffectsDependOnNeeds task copied taken w v index =
    HasSameNeeds task copied taken w v index → effect_at task w index ≡ effect_at (record task { copied = copied; taken = taken }) v index

-- The same of all places of a chunk, for two worlds of this box.
pub record HasSameNeedsIn (area : Area) (chunk : ℕ) (task : Task) (copied : CopiedBlocks) (taken : List (List Change)) (w v : World) : Type 0 where
  pub first : w.area ≡ area
  pub second : v.area ≡ area
  pub contents : AgreeIn area (chunk ∷ []) w v
  pub sources : IfSome (selection_read task.spec.work) (λ from. HaveSameSources from w v)
  pub clipboard : needs_clipboard task.spec.work ≡ true → task.copied ≡ copied
  pub changes : (index : ℕ) → index < volume area → is_in_chunks area (chunk ∷ []) index ≡ true → latest_change task.taken index ≡ latest_change taken index

-- then the worlds that the job makes agree in the chunk
abbrev pub EffectsDependOnNeedsIn : Area → ℕ → Task → CopiedBlocks → List (List Change) → World → World → Type 0
EffectsDependOnNeedsIn area chunk task copied taken w v =
    HasSameNeedsIn area chunk task copied taken w v → AgreeIn area (chunk ∷ []) (world_with task w) (world_with (record task { copied = copied; taken = taken }) v)

-- a ticket that doesn't write a chunk leaves the world's part there
abbrev pub OtherPartsStay : Workload → List ℕ → ℕ → Type 0
OtherPartsStay case order ticket =
    (chunk : ℕ) → is_among (chunks_written case order ticket) chunk ≡ false → chunk_part (world_after case order (suc ticket)) chunk ≡ chunk_part (world_after case order ticket) chunk

-- the clipboard was copied by an earlier command of the player, which read the clipboard's selection
pub record IsOfEarlierCopy (case : Workload) (id : Source) (clip : Clip) : Type 0 where
  pub own : clip.source.player ≡ id.player
  pub earlier : clip.source.step < id.step
  pub selection : selection_read_by (step_of_command case clip.source) ≡ Some clip.from

-- so is the clipboard that a command's job names
abbrev pub ClipsAreOfEarlierCopies : Workload → Source → Type 0
ClipsAreOfEarlierCopies case id = (spec : Spec) → step_of_command case id ≡ Job spec → IfSome spec.clip (IsOfEarlierCopy case id)
