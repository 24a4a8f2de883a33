-- Worked examples of chunk accesses, each by computation.
use Rattle.std.proofs.Common.{◌≡◌, ℕ, pos, negsuc, true, false, List, [], ◌∷◌, ◌++◌, refl, None, Some}
use Rattle.std.specs.Prelude.{replicate}
use Rattle.edit_terms.specs.declared.direction.Direction.TheVariants.{East}
use Rattle.edit_terms.specs.declared.script.Command.TheVariants.{Pos1, Pos2, Place, Block, Set, Move, Stack, Copy, Paste, Undo}
use Rattle.edit_terms.specs.StateText.{air}
use Rattle.run_terms.specs.Workload.{Workload}
use Rattle.run_terms.specs.Access.{chunks_read, chunks_written, chunk_part, previous_access, records_changes, accesses_of}
use Rattle.edit_terms.specs.World.{air_content}
use Rattle.run_terms.proofs.ExampleTerms.{at, east, stone, dirt, gold, street_of, box_of, all_fixed, case_of}

-- the box 17,1,17 at -1,0,-1, all filled: four chunks are written and none is read
fill_of_four_chunks :
    accesses_of (case_of (box_of (record { least = at (negsuc 0) (pos 0) (negsuc 0); width = 17; height = 1; length = 17 }) []) 15
    ((Pos1 (at (negsuc 0) (pos 0) (negsuc 0)) ∷ Pos2 (at (pos 15) (pos 0) (pos 15)) ∷ Set (all_fixed stone) ∷ []) ∷ [])) ≡ 4
fill_of_four_chunks = refl

-- a street of 40 blocks lies in three chunks: a move from the first to the second, its undo, a stack to the east end, and
-- a block outside the box
abbrev over_three_chunks : Workload
over_three_chunks = case_of (street_of (replicate 14 air ++ stone ∷ dirt ∷ gold ∷ replicate 23 air)) 15
    ((Pos1 (east 14) ∷ Pos2 (east 16) ∷ Move 1 East ∷ Undo 1 ∷ Stack 8 East ∷ Block (east 99) stone ∷ Block (east 33) stone ∷ []) ∷ [])

abbrev alone : List ℕ
alone = replicate 7 0

move_reads : chunks_read over_three_chunks alone 2 ≡ 0 ∷ 1 ∷ []
move_reads = refl

move_writes : chunks_written over_three_chunks alone 2 ≡ 0 ∷ 1 ∷ []
move_writes = refl

-- an undo writes what its edit writes, and reads nothing
undo_reads : chunks_read over_three_chunks alone 3 ≡ []
undo_reads = refl

undo_writes : chunks_written over_three_chunks alone 3 ≡ 0 ∷ 1 ∷ []
undo_writes = refl

-- the copies of a stack begin one block behind the selection
stack_writes : chunks_written over_three_chunks alone 4 ≡ 1 ∷ 2 ∷ []
stack_writes = refl

selecting_writes_nothing : chunks_written over_three_chunks alone 0 ≡ []
selecting_writes_nothing = refl

block_outside : chunks_written over_three_chunks alone 5 ≡ []
block_outside = refl

block_inside : chunks_written over_three_chunks alone 6 ≡ 2 ∷ []
block_inside = refl

-- the block in the third chunk comes after the stack, which comes after nobody there
previous_of_the_block : previous_access over_three_chunks alone 6 2 ≡ Some 4
previous_of_the_block = refl

previous_of_the_stack : previous_access over_three_chunks alone 4 2 ≡ None
previous_of_the_stack = refl

-- the move alone is taken back later
move_records : records_changes over_three_chunks (record { player = 0; step = 2 }) ≡ true
move_records = refl

stack_does_not_record : records_changes over_three_chunks (record { player = 0; step = 4 }) ≡ false
stack_does_not_record = refl

-- the third chunk's part of the opening world: its eight blocks
part_of_the_third_chunk : chunk_part over_three_chunks.opening 2 ≡ replicate 8 air_content
part_of_the_third_chunk = refl

-- a copy reads its selection's chunks, and a paste writes those of the clipboard at its place
abbrev pasted_on : Workload
pasted_on = case_of (street_of (stone ∷ dirt ∷ replicate 38 air)) 15 ((Pos1 (east 0) ∷ Pos2 (east 1) ∷ Place (east 0) ∷ Copy ∷ Place (east 31) ∷ Paste false ∷ []) ∷ [])

copy_reads : chunks_read pasted_on (replicate 6 0) 3 ≡ 0 ∷ []
copy_reads = refl

paste_writes : chunks_written pasted_on (replicate 6 0) 5 ≡ 1 ∷ 2 ∷ []
paste_writes = refl

paste_reads : chunks_read pasted_on (replicate 6 0) 5 ≡ []
paste_reads = refl
