-- Worked examples of histories, each by computation: undo and redo, alone and among several players.
use Rattle.std.proofs.Common.{◌≡◌, List, [], ◌∷◌, refl}
use Rattle.rand_chacha.specs.Block.{block_word, double_rounds, diagonal_round, column_round, quarter_round}
use Rattle.rand_core.specs.Steps.{u32_at}
use Rattle.edit_terms.specs.declared.script.Command.{Command}
use Rattle.edit_terms.specs.declared.script.Command.TheVariants.{Pos1, Pos2, Block, Set, Undo, Redo}
use Rattle.edit_terms.specs.declared.step.Refusal.TheVariants.{NothingToUndo, NothingToRedo}
use Rattle.edit_terms.specs.declared.outcome.Reply.TheVariants.{Accepted, Changed, Refused}
use Rattle.run_terms.specs.Workload.{Workload}
use Rattle.run_terms.specs.Undo.{Undoes, Redoes}
use Rattle.run_terms.proofs.ExampleTerms.{east, stone, dirt, gold, street_of, all_fixed, case_of, left_by, left_alone, left}

-- a block of stone is selected and filled with dirt, and then comes this
abbrev after_a_fill : List Command → List Command
after_a_fill rest = Pos1 (east 0) ∷ Pos2 (east 0) ∷ Set (all_fixed dirt) ∷ rest

undo_and_redo : left_alone (street_of (stone ∷ [])) 15 (after_a_fill (Undo 1 ∷ Redo 1 ∷ Redo 1 ∷ []))
    ≡ left (Accepted ∷ Accepted ∷ Changed 1 ∷ Changed 1 ∷ Changed 1 ∷ Refused NothingToRedo ∷ []) (dirt ∷ [])
unfolding block_word double_rounds diagonal_round column_round quarter_round u32_at
undo_and_redo = refl

-- a history of one edit forgets the first
history_of_depth_one : left_alone (street_of (stone ∷ [])) 1 (after_a_fill (Set (all_fixed gold) ∷ Undo 1 ∷ Undo 1 ∷ []))
    ≡ left (Accepted ∷ Accepted ∷ Changed 1 ∷ Changed 1 ∷ Changed 1 ∷ Refused NothingToUndo ∷ []) (dirt ∷ [])
unfolding block_word double_rounds diagonal_round column_round quarter_round u32_at
history_of_depth_one = refl

-- an edit that changes nothing enters the history
edit_without_change : left_alone (street_of (stone ∷ [])) 15 (after_a_fill (Set (all_fixed dirt) ∷ Undo 1 ∷ Undo 1 ∷ []))
    ≡ left (Accepted ∷ Accepted ∷ Changed 1 ∷ Changed 0 ∷ Changed 0 ∷ Changed 1 ∷ []) (stone ∷ [])
unfolding block_word double_rounds diagonal_round column_round quarter_round u32_at
edit_without_change = refl

-- two edits are taken back at once; a redo of five takes the two that are there
several_at_once : left_alone (street_of (stone ∷ [])) 15 (after_a_fill (Set (all_fixed gold) ∷ Undo 2 ∷ Redo 5 ∷ []))
    ≡ left (Accepted ∷ Accepted ∷ Changed 1 ∷ Changed 1 ∷ Changed 1 ∷ Changed 1 ∷ []) (gold ∷ [])
unfolding block_word double_rounds diagonal_round column_round quarter_round u32_at
several_at_once = refl

stone_after_both : left_alone (street_of (stone ∷ [])) 15 (after_a_fill (Set (all_fixed gold) ∷ Undo 2 ∷ []))
    ≡ left (Accepted ∷ Accepted ∷ Changed 1 ∷ Changed 1 ∷ Changed 1 ∷ []) (stone ∷ [])
unfolding block_word double_rounds diagonal_round column_round quarter_round u32_at
stone_after_both = refl

-- an edit drops the undone ones behind it
redo_after_an_edit : left_alone (street_of (stone ∷ [])) 15 (after_a_fill (Undo 1 ∷ Set (all_fixed gold) ∷ Redo 1 ∷ []))
    ≡ left (Accepted ∷ Accepted ∷ Changed 1 ∷ Changed 1 ∷ Changed 1 ∷ Refused NothingToRedo ∷ []) (gold ∷ [])
unfolding block_word double_rounds diagonal_round column_round quarter_round u32_at
redo_after_an_edit = refl

undo_after_an_edit : left_alone (street_of (stone ∷ [])) 15 (after_a_fill (Undo 1 ∷ Set (all_fixed gold) ∷ Undo 1 ∷ Undo 1 ∷ []))
    ≡ left (Accepted ∷ Accepted ∷ Changed 1 ∷ Changed 1 ∷ Changed 1 ∷ Changed 1 ∷ Refused NothingToUndo ∷ []) (stone ∷ [])
unfolding block_word double_rounds diagonal_round column_round quarter_round u32_at
undo_after_an_edit = refl

-- a single block doesn't enter the history
block_is_no_edit : left_alone (street_of (stone ∷ [])) 15 (Block (east 0) dirt ∷ Undo 1 ∷ Redo 1 ∷ [])
    ≡ left (Changed 1 ∷ Refused NothingToUndo ∷ Refused NothingToRedo ∷ []) (dirt ∷ [])
block_is_no_edit = refl

-- ---- several players

-- one player fills two blocks with dirt and takes it back; another puts gold on the first
abbrev two_players : Workload
two_players = case_of (street_of (stone ∷ stone ∷ [])) 15 ((Pos1 (east 0) ∷ Pos2 (east 1) ∷ Set (all_fixed dirt) ∷ Undo 1 ∷ []) ∷ (Block (east 0) gold ∷ []) ∷ [])

gold_before_the_fill : left_by two_players (1 ∷ 0 ∷ 0 ∷ 0 ∷ 0 ∷ []) ≡ left (Changed 1 ∷ Accepted ∷ Accepted ∷ Changed 2 ∷ Changed 2 ∷ []) (gold ∷ stone ∷ [])
unfolding block_word double_rounds diagonal_round column_round quarter_round u32_at
gold_before_the_fill = refl

gold_after_the_undo : left_by two_players (0 ∷ 0 ∷ 0 ∷ 0 ∷ 1 ∷ []) ≡ left (Accepted ∷ Accepted ∷ Changed 2 ∷ Changed 2 ∷ Changed 1 ∷ []) (gold ∷ stone ∷ [])
unfolding block_word double_rounds diagonal_round column_round quarter_round u32_at
gold_after_the_undo = refl

-- between the two, the undo brings the stone back over the gold
gold_between : left_by two_players (0 ∷ 0 ∷ 0 ∷ 1 ∷ 0 ∷ []) ≡ left (Accepted ∷ Accepted ∷ Changed 2 ∷ Changed 1 ∷ Changed 2 ∷ []) (stone ∷ stone ∷ [])
unfolding block_word double_rounds diagonal_round column_round quarter_round u32_at
gold_between = refl

-- the last ticket of that order takes back exactly the edit of ticket 2
undo_of_ticket_two : Undoes two_players (0 ∷ 0 ∷ 0 ∷ 1 ∷ 0 ∷ []) 4 2
undo_of_ticket_two = record { number = 2; work = refl; ticket = refl }

redo_of_ticket_two : Redoes (case_of (street_of (stone ∷ [])) 15 (after_a_fill (Undo 1 ∷ Redo 1 ∷ []) ∷ [])) (0 ∷ 0 ∷ 0 ∷ 0 ∷ 0 ∷ []) 4 2
redo_of_ticket_two = record { number = 2; work = refl; ticket = refl }

-- replies stand in the order of the tickets, each player's in script order
in_rounds : left_by (case_of (street_of (stone ∷ [])) 15 ((Pos1 (east 0) ∷ Pos2 (east 0) ∷ []) ∷ (Block (east 0) dirt ∷ []) ∷ [])) (0 ∷ 1 ∷ 0 ∷ [])
    ≡ left (Accepted ∷ Changed 1 ∷ Accepted ∷ []) (dirt ∷ [])
in_rounds = refl
