-- What a write job makes of its chunk: the effect of the command, over a world of which only some places are known.
use Rattle.std.specs.Prelude.{ℕ, ◌==◌, Bool, if◌then◌else◌, List, ◌∷◌, ◌++◌, map}
use Rattle.std.specs.List.{find, range_with_len}
use Rattle.std.specs.Option.{option_map_or}
use Rattle.edit_terms.specs.declared.clip.Source.{Source}
use Rattle.edit_terms.specs.declared.step.Spec.{Spec}
use Rattle.edit_terms.specs.Area.{Area, volume}
use Rattle.edit_terms.specs.Clipboard.{clipboard_of, no_blocks}
use Rattle.edit_terms.specs.World.{BlockContent, World, air_content}
use Rattle.run_terms.specs.Workload.{Workload}
use Rattle.run_terms.specs.Order.{step_of_command}
use Rattle.run_terms.specs.Change.{changes_between}
use Rattle.run_terms.specs.Effect.{Task, world_after_step}
use Rattle.run_terms.specs.Fold.{edits_taken}
use Rattle.run_terms.specs.Access.{chunk_part}
use Rattle.core_laws.specs.ChunkState.{Recorded, ChunkState, changes_kept, placed_cells, changes_in_chunk}

-- the content that is known of a place, and air where nothing is
abbrev pub known_content : List (ℕ × BlockContent) → ℕ → BlockContent
known_content known index = option_map_or (λ cell. cell.1) (find (λ cell. cell.0 == index) known) air_content

-- a world of this box by what is known of it
abbrev pub world_of_cells : Area → List (ℕ × BlockContent) → World
world_of_cells area known = record { area = area; contents = map (known_content known) (range_with_len 0 (volume area)) }

-- What a write job is handed of all chunks: the cells that its own command captured, and those of its clipboard's copy,
-- where it needs the clipboard.
pub record Handed : Type 0 where
  pub own : List (ℕ × BlockContent)
  pub copied : List (ℕ × BlockContent)

-- the world that a write job knows: its chunk's cells and those that its command captured
abbrev pub known_world : Area → ℕ → Handed → ChunkState → World
known_world area chunk handed state = world_of_cells area (placed_cells area chunk state.cells ++ handed.own)

-- what the job reads beside it: the clipboard by its captured cells, and the taken changes by those kept in the chunk
abbrev pub known_task : Workload → Source → ℕ → Handed → ChunkState → Spec → Task
known_task case id ticket handed state spec = record {
  spec = spec;
  seed = case.seed;
  ticket = ticket;
  copied = option_map_or (λ c. clipboard_of c (world_of_cells case.opening.area handed.copied)) spec.clip no_blocks;
  taken = map (λ n. changes_kept state.kept (record { player = id.player; step = n })) (edits_taken spec.work);
}

-- the world that the command of this ticket makes of what its job knows
abbrev pub world_made : Workload → Source → ℕ → ℕ → Handed → ChunkState → World
world_made case id ticket chunk handed state =
    world_after_step (known_task case id ticket handed state) (step_of_command case id) (known_world case.opening.area chunk handed state)

-- what the job changes in its chunk
abbrev pub changes_made : Workload → Source → ℕ → ℕ → Handed → ChunkState → Recorded
changes_made case id ticket chunk handed state = record {
  source = id;
  changes = changes_in_chunk case.opening.area chunk (changes_between (known_world case.opening.area chunk handed state) (world_made case id ticket chunk handed state));
}

-- The chunk after a write job: the part that the command makes; the changes are kept where this is asked for the command.
abbrev pub chunk_written : Workload → (Source → Bool) → Source → ℕ → ℕ → Handed → ChunkState → ChunkState
chunk_written case keeps id ticket chunk handed state = record state {
  writes = ticket ∷ state.writes;
  cells = chunk_part (world_made case id ticket chunk handed state) chunk;
  kept = if keeps id then changes_made case id ticket chunk handed state ∷ state.kept else state.kept;
}
