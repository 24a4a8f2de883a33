-- Chunk accesses: which chunks a command reads and writes, and which ticket accessed a chunk before.
use Rattle.std.specs.Prelude.{ℕ, ◌+◌, ◌-◌, ◌*◌, ◌==◌, Bool, ◌||◌, pos, List, [], ◌∷◌, length, map, reverse, filter, sum_by, Option, Some, None}
use Rattle.std.specs.Option.{option_and_then}
use Rattle.std.specs.List.{range_with_len, list_any, find, flat_map}
use Rattle.edit_terms.specs.declared.direction.Direction.{Direction}
use Rattle.edit_terms.specs.declared.pos.Pos.{Pos}
use Rattle.edit_terms.specs.declared.clip.Source.{Source}
use Rattle.edit_terms.specs.declared.step.Work.{Work}
use Rattle.edit_terms.specs.declared.step.Work.TheVariants.{Fill, Stack, Move, Copy, Cut, Paste, Put, Undo, Redo}
use Rattle.edit_terms.specs.declared.clip.Clip.{Clip}
use Rattle.edit_terms.specs.declared.step.Step.{Step}
use Rattle.edit_terms.specs.declared.step.Step.TheVariants.{Job}
use Rattle.edit_terms.specs.Area.{Area, position_of, volume, chunks, chunk_of}
use Rattle.edit_terms.specs.Neighbour.{away}
use Rattle.edit_terms.specs.Frame.{frame_of, frame_of_selection, size_along, common_box}
use Rattle.edit_terms.specs.Clipboard.{clip_box_of, placed_at}
use Rattle.edit_terms.specs.World.{BlockContent, World}
use Rattle.run_terms.specs.Workload.{Workload}
use Rattle.run_terms.specs.Order.{lines_of, source_of, step_of_command}
use Rattle.run_terms.specs.Change.{content_of}
use Rattle.run_terms.specs.Fold.{edits_taken_by}

-- ---- chunks of boxes

-- a block of the box that is also one of the world's box lies in the chunk
abbrev pub is_chunk_of_box : Area → ℕ → Area → Bool
is_chunk_of_box area chunk box =
    let shared = common_box box area in
    list_any (λ index. chunk_of area (position_of shared index) == chunk) (range_with_len 0 (volume shared))

-- the chunks, by rising index, in which a block of one of these boxes lies
abbrev pub chunks_of_boxes : Area → List Area → List ℕ
chunks_of_boxes area boxes = filter (λ chunk. list_any (is_chunk_of_box area chunk) boxes) (range_with_len 0 (chunks area))

-- the places of a chunk's blocks in the list of the box's blocks, rising
abbrev pub chunk_cells : Area → ℕ → List ℕ
chunk_cells area chunk = filter (λ index. chunk_of area (position_of area index) == chunk) (range_with_len 0 (volume area))

-- a world's part in a chunk: the contents of the chunk's blocks in index order
abbrev pub chunk_part : World → ℕ → List BlockContent
chunk_part w chunk = map (content_of w) (chunk_cells w.area chunk)

-- ---- what a command accesses

-- the box so many blocks on in a direction
abbrev pub moved_box : Direction → ℕ → Area → Area
moved_box to count box = record box { least = away to (pos count) box.least }

-- the boxes that a stack's copies of a box fill: each lies beside the last
abbrev pub stacked_boxes : ℕ → Direction → Area → List Area
stacked_boxes count to box = map (λ i. moved_box to (i * size_along to box) box) (range_with_len 1 count)

-- the box of a single block
abbrev pub single_box : Pos → Area
single_box p = record { least = p; width = 1; height = 1; length = 1 }

-- the bounds of a clipboard, if it has some, at a place
abbrev pub pasted_boxes : Pos → Option Area → List Area
pasted_boxes place (Some bounds) = record bounds { least = placed_at place bounds.least } ∷ []
pasted_boxes place None = []

-- the boxes in which a job reads the world for later: what it moves or copies
abbrev pub boxes_read : Work → List Area
boxes_read (Stack from count to) = frame_of_selection from ∷ []
boxes_read (Move from count to) = frame_of_selection from ∷ []
boxes_read (Copy from) = frame_of_selection from ∷ []
boxes_read (Cut from) = frame_of_selection from ∷ []
boxes_read _ = []

-- the boxes in which a job may change the world; those of undo and redo are their edits'
abbrev pub boxes_written : Area → Option Clip → Work → List Area
boxes_written area clip (Fill region mask pattern) = frame_of region ∷ []
boxes_written area clip (Stack from count to) = stacked_boxes count to (frame_of_selection from)
boxes_written area clip (Move from count to) = frame_of_selection from ∷ moved_box to count (frame_of_selection from) ∷ []
boxes_written area clip (Copy from) = []
boxes_written area clip (Cut from) = frame_of_selection from ∷ []
boxes_written area clip (Paste place skip_air) = pasted_boxes place (option_and_then (λ c. clip_box_of c area) clip)
boxes_written area clip (Put at state) = single_box at ∷ []
boxes_written area clip (Undo edits) = []
boxes_written area clip (Redo edits) = []

abbrev pub boxes_read_by : Step → List Area
boxes_read_by (Job spec) = boxes_read spec.work
boxes_read_by _ = []

abbrev pub boxes_written_by : Area → Step → List Area
boxes_written_by area (Job spec) = boxes_written area spec.clip spec.work
boxes_written_by area _ = []

-- the chunks that a command reads, by rising index
abbrev pub chunks_read_by : Workload → Source → List ℕ
chunks_read_by case id = chunks_of_boxes case.opening.area (boxes_read_by (step_of_command case id))

-- a command and the edits that it takes, by command index
abbrev pub with_edits_taken : Workload → Source → List ℕ
with_edits_taken case id = id.step ∷ edits_taken_by (step_of_command case id)

-- the chunks that a command writes, by rising index: its own, and all that the edits which it takes write
abbrev pub chunks_written_by : Workload → Source → List ℕ
chunks_written_by case id =
    let area = case.opening.area in
    chunks_of_boxes area (flat_map (λ n. boxes_written_by area (step_of_command case (record id { step = n }))) (with_edits_taken case id))

-- ---- by ticket

abbrev pub chunks_read : Workload → List ℕ → ℕ → List ℕ
chunks_read case order ticket = chunks_read_by case (source_of order ticket)

abbrev pub chunks_written : Workload → List ℕ → ℕ → List ℕ
chunks_written case order ticket = chunks_written_by case (source_of order ticket)

-- the ticket reads or writes the chunk
abbrev pub is_accessed : Workload → List ℕ → ℕ → ℕ → Bool
is_accessed case order chunk ticket = list_any (λ c. c == chunk) (chunks_read case order ticket) || list_any (λ c. c == chunk) (chunks_written case order ticket)

-- the previous access: the greatest ticket below this one that reads or writes the chunk
abbrev pub previous_access : Workload → List ℕ → ℕ → ℕ → Option ℕ
previous_access case order ticket chunk = find (is_accessed case order chunk) (reverse (range_with_len 0 ticket))

-- ---- over a whole script

-- A command records its changes exactly where a later undo or redo of the same script takes it.
abbrev pub records_changes : Workload → Source → Bool
records_changes case id =
    list_any (λ n. list_any (λ edit. edit == id.step) (edits_taken_by (step_of_command case (record id { step = n }))))
    (range_with_len (id.step + 1) (length (lines_of case.scripts id.player) - (id.step + 1)))

-- how many accesses a player's commands have, each chunk counted once for a read and once for a write
abbrev pub accesses_of_player : Workload → ℕ → ℕ
accesses_of_player case player =
    sum_by (λ n. length (chunks_read_by case (record { player = player; step = n })) + length (chunks_written_by case (record { player = player; step = n })))
    (range_with_len 0 (length (lines_of case.scripts player)))

-- how many accesses all commands have
abbrev pub accesses_of : Workload → ℕ
accesses_of case = sum_by (accesses_of_player case) (range_with_len 0 (length case.scripts))
