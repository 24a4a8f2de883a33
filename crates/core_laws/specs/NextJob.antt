-- A chunk's next job, seen from the chunk alone, is one event of the machine.
use Rattle.std.specs.Prelude.{◌≡◌, ℕ, suc, ◌<◌, Bool, true, false, List, length, Ok}
use Rattle.edit_terms.specs.declared.clip.Source.{Source}
use Rattle.edit_terms.specs.declared.event.Event.{Event}
use Rattle.edit_terms.specs.declared.event.Event.TheVariants.{Read, Write}
use Rattle.run_terms.specs.Workload.{Workload}
use Rattle.access_laws.specs.Locality.{is_among}
use Rattle.core_laws.specs.ChunkState.{ChunkState}
use Rattle.core_laws.specs.Core.{Core, reads_chunk, writes_chunk, has_turn, is_enabled, after_event, run_of}
use Rattle.core_laws.specs.Serial.{serial_chunk, IsSerialChunk}

-- what a chunk sees of a read job that may run there: it isn't done, and it is its ticket's turn
pub record IsNextRead (case : Workload) (order : List ℕ) (chunk : ℕ) (state : ChunkState) (ticket : ℕ) : Type 0 where
  pub drawn : ticket < length order
  pub accessed : reads_chunk case order chunk ticket ≡ true
  pub undone : is_among state.reads ticket ≡ false
  pub turn : has_turn case order chunk state ticket ≡ true

-- the same of a write job, and the ticket's read job of the chunk is done, if there is one
pub record IsNextWrite (case : Workload) (order : List ℕ) (chunk : ℕ) (state : ChunkState) (ticket : ℕ) : Type 0 where
  pub drawn : ticket < length order
  pub accessed : writes_chunk case order chunk ticket ≡ true
  pub undone : is_among state.writes ticket ≡ false
  pub turn : has_turn case order chunk state ticket ≡ true
  pub read : reads_chunk case order chunk ticket ≡ true → is_among state.reads ticket ≡ true

-- Some run reaches a core of this order and this state of the chunk; there the event is enabled, and it leads the chunk to the
-- other state.
pub record IsOneEvent (case : Workload) (keeps : Source → Bool) (order : List ℕ) (chunk : ℕ) (state : ChunkState) (event : Event) (after : ChunkState) : Type 0 where
  pub events : List Event
  pub core : Core
  pub run : run_of case keeps events ≡ Ok core
  pub tickets : core.order ≡ order
  pub before : core.chunks chunk ≡ state
  pub enabled : is_enabled case core event ≡ true
  pub leads : (after_event case keeps core event).chunks chunk ≡ after

abbrev pub ReadsAreEvents : Workload → (Source → Bool) → List ℕ → Type 0
ReadsAreEvents case keeps order =
    (chunk ticket : ℕ) (state : ChunkState) → IsSerialChunk case keeps order chunk state → IsNextRead case order chunk state ticket
    → IsOneEvent case keeps order chunk state (Read ticket chunk) (serial_chunk case keeps order chunk (suc ticket) ticket)

abbrev pub WritesAreEvents : Workload → (Source → Bool) → List ℕ → Type 0
WritesAreEvents case keeps order =
    (chunk ticket : ℕ) (state : ChunkState) → IsSerialChunk case keeps order chunk state → IsNextWrite case order chunk state ticket
    → IsOneEvent case keeps order chunk state (Write ticket chunk) (serial_chunk case keeps order chunk (suc ticket) (suc ticket))
