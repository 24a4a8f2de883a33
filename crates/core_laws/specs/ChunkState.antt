-- The state of one chunk while jobs run: which jobs are done there, what stands in its blocks, the cells that its read jobs
-- captured, and the changes that are kept for undo and redo.
use Rattle.std.specs.Prelude.{ℕ, ◌==◌, Bool, ◌&&◌, List, [], filter, Option}
use Rattle.std.specs.List.{find, zip}
use Rattle.std.specs.Option.{option_map_or}
use Rattle.edit_terms.specs.declared.clip.Source.{Source}
use Rattle.edit_terms.specs.declared.region.Selection.{Selection}
use Rattle.edit_terms.specs.Area.{Area, position_of, chunk_of}
use Rattle.edit_terms.specs.Region.{is_selected}
use Rattle.edit_terms.specs.World.{BlockContent, World}
use Rattle.run_terms.specs.Workload.{Workload}
use Rattle.run_terms.specs.Order.{step_of_command}
use Rattle.run_terms.specs.Change.{Change}
use Rattle.run_terms.specs.Access.{chunk_cells, chunk_part}
use Rattle.run_terms.specs.Needs.{selection_read_by}

-- The cells that a command's read job captured in a chunk: places of the list of the box's blocks, with their contents.
pub record Captured : Type 0 where
  pub source : Source
  pub chunk : ℕ
  pub cells : List (ℕ × BlockContent)

-- the changes that a command's write job made in a chunk
pub record Recorded : Type 0 where
  pub source : Source
  pub changes : List Change

-- The tickets whose read job is done here, and those whose write job is, the last first; the contents of the chunk's
-- blocks in index order; and what the read jobs captured, and the write jobs kept, the last first.
pub record ChunkState : Type 0 where
  pub reads : List ℕ
  pub writes : List ℕ
  pub cells : List BlockContent
  pub parts : List Captured
  pub kept : List Recorded

-- before all jobs the chunk has the opening world's part
abbrev pub opening_state : World → ℕ → ChunkState
opening_state opening chunk = record { reads = []; writes = []; cells = chunk_part opening chunk; parts = []; kept = [] }

abbrev pub is_same_source : Source → Source → Bool
is_same_source a b = a.player == b.player && a.step == b.step

-- what a command captured, if its read job is done
abbrev pub part_of : List Captured → Source → Option Captured
part_of parts id = find (λ part. is_same_source part.source id) parts

-- the changes that are kept of a command
abbrev pub changes_kept : List Recorded → Source → List Change
changes_kept kept id = option_map_or (λ recorded. recorded.changes) (find (λ recorded. is_same_source recorded.source id) kept) []

-- contents of a chunk's blocks, each with its place in the list of the box's blocks
abbrev pub placed_cells : Area → ℕ → List BlockContent → List (ℕ × BlockContent)
placed_cells area chunk cells = zip (chunk_cells area chunk) cells

-- those of selected blocks
abbrev pub selected_cells : Area → Selection → ℕ → List BlockContent → List (ℕ × BlockContent)
selected_cells area from chunk cells = filter (λ cell. is_selected from (position_of area cell.0)) (placed_cells area chunk cells)

-- what a command's read job captures of a chunk with these contents: the cells of the selection that it copies
abbrev pub captured_part : Workload → Source → ℕ → List BlockContent → Captured
captured_part case id chunk cells = record {
  source = id;
  chunk = chunk;
  cells = option_map_or (λ from. selected_cells case.opening.area from chunk cells) (selection_read_by (step_of_command case id)) [];
}

-- the changes that lie in the chunk
abbrev pub changes_in_chunk : Area → ℕ → List Change → List Change
changes_in_chunk area chunk changes = filter (λ change. chunk_of area (position_of area change.index) == chunk) changes
