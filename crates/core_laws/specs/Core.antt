-- The event machine: commands take their tickets, and the jobs of tickets run, chunk by chunk, in any order in which each
-- event is enabled when it comes.
use Rattle.std.specs.Prelude.{ℕ, ◌+◌, ◌==◌, nat_lt, Bool, true, ◌&&◌, ◌||◌, not, if◌then◌else◌, List, [], ◌∷◌, ◌++◌, length, Result, Ok, Err}
use Rattle.std.specs.List.{list_all, flat_map}
use Rattle.std.specs.Option.{option_map_or}
use Rattle.edit_terms.specs.declared.clip.Source.{Source}
use Rattle.edit_terms.specs.declared.event.Event.{Event}
use Rattle.edit_terms.specs.declared.event.Event.TheVariants.{Draw, Read, Write}
use Rattle.edit_terms.specs.declared.step.Step.{Step}
use Rattle.edit_terms.specs.declared.step.Step.TheVariants.{Job}
use Rattle.edit_terms.specs.World.{BlockContent}
use Rattle.run_terms.specs.Workload.{Workload}
use Rattle.run_terms.specs.Order.{lines_of, turns_of, source_of, ticket_of, step_of_command, step_of_ticket}
use Rattle.run_terms.specs.Access.{chunks_read_by, chunks_read, chunks_written, previous_access}
use Rattle.run_terms.specs.Needs.{needs_clipboard}
use Rattle.access_laws.specs.Locality.{is_among}
use Rattle.core_laws.specs.ChunkState.{ChunkState, opening_state, part_of, captured_part}
use Rattle.core_laws.specs.WriteJob.{Handed, chunk_written}

-- The order of the tickets taken so far, and the state of each chunk by its index.
pub record Core : Type 0 where
  pub order : List ℕ
  pub chunks : ℕ → ChunkState

-- at first no ticket is taken
abbrev pub opening_core : Workload → Core
opening_core case = record { order = []; chunks = opening_state case.opening }

-- ---- when an event is enabled

-- the ticket's command reads the chunk, and it writes the chunk
abbrev pub reads_chunk : Workload → List ℕ → ℕ → ℕ → Bool
reads_chunk case order chunk ticket = is_among (chunks_read case order ticket) chunk

abbrev pub writes_chunk : Workload → List ℕ → ℕ → ℕ → Bool
writes_chunk case order chunk ticket = is_among (chunks_written case order ticket) chunk

-- each job of the ticket on the chunk is done there
abbrev pub is_settled : Workload → List ℕ → ℕ → ChunkState → ℕ → Bool
is_settled case order chunk state ticket =
    (not (reads_chunk case order chunk ticket) || is_among state.reads ticket) && (not (writes_chunk case order chunk ticket) || is_among state.writes ticket)

-- it is the ticket's turn at the chunk: the previous access is settled, if there is one
abbrev pub has_turn : Workload → List ℕ → ℕ → ChunkState → ℕ → Bool
has_turn case order chunk state ticket = option_map_or (is_settled case order chunk state) (previous_access case order ticket chunk) true

-- each read job of the ticket is done
abbrev pub are_reads_done : Workload → Core → ℕ → Bool
are_reads_done case core ticket = list_all (λ chunk. is_among (core.chunks chunk).reads ticket) (chunks_read case core.order ticket)

-- and so is each of the clipboard's copy, where the command needs the clipboard
abbrev pub is_clipboard_there : Workload → Core → Step → Bool
is_clipboard_there case core (Job spec) =
    not (needs_clipboard spec.work) || option_map_or (λ c. are_reads_done case core (ticket_of core.order c.source)) spec.clip true
is_clipboard_there case core _ = true

abbrev pub is_read_enabled : Workload → Core → ℕ → ℕ → Bool
is_read_enabled case core ticket chunk =
    nat_lt ticket (length core.order) && reads_chunk case core.order chunk ticket && not (is_among (core.chunks chunk).reads ticket)
    && has_turn case core.order chunk (core.chunks chunk) ticket

abbrev pub is_write_enabled : Workload → Core → ℕ → ℕ → Bool
is_write_enabled case core ticket chunk =
    nat_lt ticket (length core.order) && writes_chunk case core.order chunk ticket && not (is_among (core.chunks chunk).writes ticket)
    && has_turn case core.order chunk (core.chunks chunk) ticket && are_reads_done case core ticket && is_clipboard_there case core (step_of_ticket case core.order ticket)

-- A player with a further command may take a ticket; a job may run once it is its ticket's turn at the chunk and, for a
-- write, all that it needs of other chunks is captured. Each job runs once.
abbrev pub is_enabled : Workload → Core → Event → Bool
is_enabled case core (Draw player) = nat_lt (turns_of player core.order) (length (lines_of case.scripts player))
is_enabled case core (Read ticket chunk) = is_read_enabled case core ticket chunk
is_enabled case core (Write ticket chunk) = is_write_enabled case core ticket chunk

-- ---- what an event does

-- the cells that a command captured, in all the chunks that it reads
abbrev pub cells_captured : Workload → Core → Source → List (ℕ × BlockContent)
cells_captured case core id = flat_map (λ chunk. option_map_or (λ part. part.cells) (part_of (core.chunks chunk).parts id) []) (chunks_read_by case id)

-- those of the clipboard's copy, where the command needs the clipboard
abbrev pub cells_copied : Workload → Core → Step → List (ℕ × BlockContent)
cells_copied case core (Job spec) = if needs_clipboard spec.work then option_map_or (λ c. cells_captured case core c.source) spec.clip [] else []
cells_copied case core _ = []

abbrev pub handed_to : Workload → Core → Source → Handed
handed_to case core id = record { own = cells_captured case core id; copied = cells_copied case core (step_of_command case id) }

-- the chunk after a read job
abbrev pub chunk_read : Workload → Source → ℕ → ℕ → ChunkState → ChunkState
chunk_read case id ticket chunk state = record state { reads = ticket ∷ state.reads; parts = captured_part case id chunk state.cells ∷ state.parts }

-- another state of one chunk
abbrev pub with_chunk : ℕ → ChunkState → Core → Core
with_chunk chunk state core = record core { chunks = λ c. if c == chunk then state else core.chunks c }

abbrev pub after_event : Workload → (Source → Bool) → Core → Event → Core
after_event case keeps core (Draw player) = record core { order = core.order ++ player ∷ [] }
after_event case keeps core (Read ticket chunk) = with_chunk chunk (chunk_read case (source_of core.order ticket) ticket chunk (core.chunks chunk)) core
after_event case keeps core (Write ticket chunk) =
    with_chunk chunk (chunk_written case keeps (source_of core.order ticket) ticket chunk (handed_to case core (source_of core.order ticket)) (core.chunks chunk)) core

-- ---- runs

-- The core after these events, the first of which has this number, or the number of the first that isn't enabled when it comes.
abbrev pub run_from : Workload → (Source → Bool) → Core → ℕ → List Event → Result Core ℕ
run_from case keeps core number [] = Ok core
run_from case keeps core number (event ∷ events) = if is_enabled case core event then run_from case keeps (after_event case keeps core event) (number + 1) events else Err number

abbrev pub run_of : Workload → (Source → Bool) → List Event → Result Core ℕ
run_of case keeps events = run_from case keeps (opening_core case) 0 events
