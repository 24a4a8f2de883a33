-- The central claim: whatever the order of events, each chunk's state is one of the serial execution.
use Rattle.std.specs.Prelude.{◌≡◌, ℕ, suc, ◌≤◌, Bool, true, ◌&&◌, List, length, map, reverse, filter, All}
use Rattle.std.specs.List.{range_with_len}
use Rattle.std.specs.Prelude.{Ok}
use Rattle.edit_terms.specs.declared.clip.Source.{Source}
use Rattle.edit_terms.specs.declared.event.Event.{Event}
use Rattle.run_terms.specs.Workload.{Workload}
use Rattle.run_terms.specs.Order.{IsLegalOrder, source_of, step_of_command}
use Rattle.run_terms.specs.Fold.{edits_taken_by, world_after, changes_of}
use Rattle.run_terms.specs.Access.{chunk_part}
use Rattle.core_laws.specs.ChunkState.{Captured, Recorded, ChunkState, captured_part, changes_in_chunk}
use Rattle.core_laws.specs.Core.{Core, reads_chunk, writes_chunk, run_of}

-- the tickets below a number, the last first
abbrev pub tickets_below : ℕ → List ℕ
tickets_below number = reverse (range_with_len 0 number)

-- what a ticket captures of a chunk in the serial execution: selected blocks of the world before it
abbrev pub captured_by : Workload → List ℕ → ℕ → ℕ → Captured
captured_by case order chunk ticket = captured_part case (source_of order ticket) chunk (chunk_part (world_after case order ticket) chunk)

-- what it changes there
abbrev pub recorded_by : Workload → List ℕ → ℕ → ℕ → Recorded
recorded_by case order chunk ticket = record { source = source_of order ticket; changes = changes_in_chunk case.opening.area chunk (changes_of case order ticket) }

-- it writes the chunk, and its changes are kept
abbrev pub is_kept : Workload → (Source → Bool) → List ℕ → ℕ → ℕ → Bool
is_kept case keeps order chunk ticket = writes_chunk case order chunk ticket && keeps (source_of order ticket)

-- The state of a chunk after the read jobs of all tickets below one number, and the write jobs of all below another: its
-- blocks are the part of the world after so many tickets.
abbrev pub serial_chunk : Workload → (Source → Bool) → List ℕ → ℕ → ℕ → ℕ → ChunkState
serial_chunk case keeps order chunk read written = record {
  reads = filter (reads_chunk case order chunk) (tickets_below read);
  writes = filter (writes_chunk case order chunk) (tickets_below written);
  cells = chunk_part (world_after case order written) chunk;
  parts = map (captured_by case order chunk) (filter (reads_chunk case order chunk) (tickets_below read));
  kept = map (recorded_by case order chunk) (filter (is_kept case keeps order chunk) (tickets_below written));
}

-- A chunk's state is that of the serial execution up to some ticket, perhaps with that ticket's read job.
pub record IsSerialChunk (case : Workload) (keeps : Source → Bool) (order : List ℕ) (chunk : ℕ) (state : ChunkState) : Type 0 where
  pub read : ℕ
  pub written : ℕ
  pub least : written ≤ read
  pub most : read ≤ suc written
  pub drawn : read ≤ length order
  pub same : state ≡ serial_chunk case keeps order chunk read written

-- the changes of each command are kept that a later undo or redo takes
abbrev pub KeepsTaken : Workload → (Source → Bool) → Type 0
KeepsTaken case keeps = (id : Source) → All (λ n. keeps (record { player = id.player; step = n }) ≡ true) (edits_taken_by (step_of_command case id))

-- What any run of the machine reaches: a legal order, and chunks as in the serial execution of that order.
pub record IsSerialCore (case : Workload) (keeps : Source → Bool) (core : Core) : Type 0 where
  pub legal : IsLegalOrder case.scripts core.order
  pub chunks : (chunk : ℕ) → IsSerialChunk case keeps core.order chunk (core.chunks chunk)

-- the core after any events that are each enabled when they come
abbrev pub ReachesSerialCores : Workload → (Source → Bool) → Type 0
ReachesSerialCores case keeps = (events : List Event) (core : Core) → run_of case keeps events ≡ Ok core → IsSerialCore case keeps core
