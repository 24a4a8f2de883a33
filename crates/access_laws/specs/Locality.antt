-- Effects are local: a command changes the world only in the chunks that it writes, and what it makes of them depends
-- only on the chunks that it accesses.
use Rattle.std.specs.Prelude.{◌≡◌, ℕ, ◌<◌, ◌==◌, Bool, true, List, All, IfSome}
use Rattle.std.specs.List.{list_any}
use Rattle.edit_terms.specs.declared.clip.Source.{Source}
use Rattle.edit_terms.specs.declared.step.Step.TheVariants.{Job}
use Rattle.edit_terms.specs.Area.{Area, position_of, volume, chunk_of}
use Rattle.edit_terms.specs.declared.step.Spec.{Spec}
use Rattle.edit_terms.specs.Clipboard.{clipboard_of}
use Rattle.edit_terms.specs.World.{World}
use Rattle.run_terms.specs.Workload.{Workload}
use Rattle.run_terms.specs.Order.{step_of_command}
use Rattle.run_terms.specs.Change.{content_of}
use Rattle.run_terms.specs.Effect.{Task, world_with}
use Rattle.run_terms.specs.Fold.{changes_of}
use Rattle.run_terms.specs.Access.{chunk_part, chunks_read_by, chunks_written_by, chunks_written}

-- the number is one of these
abbrev pub is_among : List ℕ → ℕ → Bool
is_among numbers n = list_any (λ m. m == n) numbers

-- the block at a place of the box's list lies in one of these chunks
abbrev pub is_in_chunks : Area → List ℕ → ℕ → Bool
is_in_chunks area chunks index = is_among chunks (chunk_of area (position_of area index))

-- every change of the ticket lies in a chunk that the ticket's command writes
abbrev pub ChangesLieInChunksWritten : Workload → List ℕ → ℕ → Type 0
ChangesLieInChunksWritten case order ticket =
    All (λ change. is_in_chunks case.opening.area (chunks_written case order ticket) change.index ≡ true) (changes_of case order ticket)

-- two worlds of this box have the same contents in these chunks
abbrev pub AgreeIn : Area → List ℕ → World → World → Type 0
AgreeIn area chunks w v = (index : ℕ) → index < volume area → is_in_chunks area chunks index ≡ true → content_of w index ≡ content_of v index

-- the same said chunk by chunk: the two have the same part in each
abbrev pub HaveSameParts : List ℕ → World → World → Type 0
HaveSameParts chunks w v = (chunk : ℕ) → is_among chunks chunk ≡ true → chunk_part w chunk ≡ chunk_part v chunk

-- the two say the same
pub record IsAgreementByParts (area : Area) (chunks : List ℕ) (w v : World) : Type 0 where
  pub parts : AgreeIn area chunks w v → HaveSameParts chunks w v
  pub contents : HaveSameParts chunks w v → AgreeIn area chunks w v

-- two worlds of the case's box
pub record AreWorldsOf (case : Workload) (w v : World) : Type 0 where
  pub first : w.area ≡ case.opening.area
  pub second : v.area ≡ case.opening.area

-- From two worlds that agree on the chunks that a command reads and writes, the command's job, with the same seed,
-- ticket, clipboard and taken changes, makes worlds that agree on the chunks that it writes.
abbrev pub EffectsDependOnChunksAccessed : Workload → Source → Task → World → World → Type 0
EffectsDependOnChunksAccessed case id task w v =
    step_of_command case id ≡ Job task.spec → AreWorldsOf case w v → AgreeIn case.opening.area (chunks_read_by case id) w v → AgreeIn case.opening.area (chunks_written_by case id) w v
    → AgreeIn case.opening.area (chunks_written_by case id) (world_with task w) (world_with task v)

-- The clipboard that a command's job names is the same from two worlds that agree on the chunks that the clipboard's copy
-- read.
abbrev pub ClipboardsDependOnChunksRead : Workload → Source → World → World → Type 0
ClipboardsDependOnChunksRead case id w v =
    (spec : Spec) → step_of_command case id ≡ Job spec → AreWorldsOf case w v → IfSome spec.clip (λ c. AgreeIn case.opening.area (chunks_read_by case c.source) w v → clipboard_of c w ≡ clipboard_of c v)
