-- What a reached chunk holds: the part of a serial world, true captured cells and true changes; and what a finished run leaves.
use Rattle.std.specs.Prelude.{◌≡◌, ℕ, ◌<◌, ◌≤◌, Bool, true, false, length, All, Some, List}
use Rattle.edit_terms.specs.declared.clip.Source.{Source}
use Rattle.edit_terms.specs.Area.{chunks}
use Rattle.edit_terms.specs.World.{World, IsWorld}
use Rattle.run_terms.specs.Workload.{Workload}
use Rattle.run_terms.specs.Order.{IsWholeOrder, source_of}
use Rattle.run_terms.specs.Fold.{world_after, changes_of}
use Rattle.run_terms.specs.Reply.{final_world}
use Rattle.run_terms.specs.Access.{chunk_part}
use Rattle.access_laws.specs.Locality.{is_among}
use Rattle.core_laws.specs.ChunkState.{Captured, Recorded, part_of, changes_kept, changes_in_chunk}
use Rattle.core_laws.specs.Core.{Core, is_settled}
use Rattle.core_laws.specs.Serial.{captured_by, recorded_by, serial_chunk}

-- ---- the blocks of a chunk

-- All jobs of so many first tickets on the chunk are done there, and some job of the next ticket, if there is one, isn't.
pub record IsSettledUpTo (case : Workload) (core : Core) (chunk number : ℕ) : Type 0 where
  pub drawn : number ≤ length core.order
  pub settled : (ticket : ℕ) → ticket < number → is_settled case core.order chunk (core.chunks chunk) ticket ≡ true
  pub next : number < length core.order → is_settled case core.order chunk (core.chunks chunk) number ≡ false

-- then the chunk's blocks are the part of the world after these tickets
abbrev pub HasPartOfSettledTickets : Workload → Core → Type 0
HasPartOfSettledTickets case core =
    (chunk number : ℕ) → IsSettledUpTo case core chunk number → (core.chunks chunk).cells ≡ chunk_part (world_after case core.order number) chunk

-- ---- captured cells and kept changes

-- a drawn ticket captured these cells, in the serial world before it
pub record IsTruePart (case : Workload) (order : List ℕ) (chunk : ℕ) (part : Captured) : Type 0 where
  pub ticket : ℕ
  pub drawn : ticket < length order
  pub captured : part ≡ captured_by case order chunk ticket

-- these are the changes of a drawn ticket in the chunk
pub record IsTrueRecord (case : Workload) (order : List ℕ) (chunk : ℕ) (recorded : Recorded) : Type 0 where
  pub ticket : ℕ
  pub drawn : ticket < length order
  pub changed : recorded ≡ recorded_by case order chunk ticket

-- All captured cells and kept changes of the chunk are true, and those of each job that is done there are found by the
-- command's id.
pub record HoldsTruth (case : Workload) (keeps : Source → Bool) (core : Core) (chunk : ℕ) : Type 0 where
  pub parts : All (IsTruePart case core.order chunk) (core.chunks chunk).parts
  pub kept : All (IsTrueRecord case core.order chunk) (core.chunks chunk).kept
  pub captured : (ticket : ℕ) → is_among (core.chunks chunk).reads ticket ≡ true
      → part_of (core.chunks chunk).parts (source_of core.order ticket) ≡ Some (captured_by case core.order chunk ticket)
  pub changed : (ticket : ℕ) → is_among (core.chunks chunk).writes ticket ≡ true → keeps (source_of core.order ticket) ≡ true
      → changes_kept (core.chunks chunk).kept (source_of core.order ticket) ≡ changes_in_chunk case.opening.area chunk (changes_of case core.order ticket)

-- ---- the end

-- all commands have their tickets, and each job of each ticket is done
pub record IsFinished (case : Workload) (core : Core) : Type 0 where
  pub whole : IsWholeOrder case.scripts core.order
  pub done : (ticket chunk : ℕ) → ticket < length core.order → is_settled case core.order chunk (core.chunks chunk) ticket ≡ true

-- a world of the case's box whose part in each chunk is that chunk's blocks
pub record IsOfCells (case : Workload) (core : Core) (w : World) : Type 0 where
  pub area : w.area ≡ case.opening.area
  pub whole : IsWorld w
  pub parts : (chunk : ℕ) → chunk < chunks case.opening.area → chunk_part w chunk ≡ (core.chunks chunk).cells

-- once all is done the chunks together are the last world of the serial execution
abbrev pub LeavesFinalWorld : Workload → Core → Type 0
LeavesFinalWorld case core = IsFinished case core → (w : World) → IsOfCells case core w → w ≡ final_world case core.order

-- ---- more tickets

-- the serial states of a chunk up to a ticket of an order are the same under a longer order
abbrev pub SerialStatesStay : Workload → (Source → Bool) → List ℕ → List ℕ → Type 0
SerialStatesStay case keeps order longer =
    (chunk read written : ℕ) → read ≤ length order → written ≤ length order → serial_chunk case keeps longer chunk read written ≡ serial_chunk case keeps order chunk read written
