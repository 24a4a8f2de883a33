-- Worked examples of whole runs, each by computation: fills, masks, clipboards, stack and move, and refusals.
use Rattle.std.proofs.Common.{◌≡◌, ℕ, pos, List, [], ◌∷◌, ◌++◌, refl, None, Some, true, false}
use Rattle.std.specs.Prelude.{codes, replicate}
use Rattle.rand_chacha.specs.Block.{block_word, double_rounds, diagonal_round, column_round, quarter_round}
use Rattle.rand_core.specs.Steps.{u32_at}
use Rattle.edit_terms.specs.declared.direction.Direction.TheVariants.{East, West, Up}
use Rattle.edit_terms.specs.declared.mask.Sign.TheVariants.{Below}
use Rattle.edit_terms.specs.declared.mask.Leaf.TheVariants.{Noise, InSelection, OneOf}
use Rattle.edit_terms.specs.declared.pattern.Value.TheVariants.{Fixed, Rename, Put, Clipboard}
use Rattle.edit_terms.specs.declared.pos.Pos.{Pos}
use Rattle.edit_terms.specs.declared.region.Kind.TheVariants.{Sphere as sphere_kind}
use Rattle.edit_terms.specs.declared.script.Command.{Command}
use Rattle.edit_terms.specs.declared.script.Command.TheVariants.{Pos1, Pos2, Place, Sel, Block, Set, Replace, Sphere, Stack, Move, Copy, Cut, Paste, Rotate, Flip, Gmask}
use Rattle.edit_terms.specs.declared.step.Refusal.TheVariants.{NoSelection, NoPlace, NoClipboard}
use Rattle.edit_terms.specs.declared.outcome.Reply.TheVariants.{Accepted, Changed, Refused}
use Rattle.edit_terms.specs.Area.{Area}
use Rattle.edit_terms.specs.StateText.{State, air}
use Rattle.edit_terms.specs.World.{World}
use Rattle.run_terms.proofs.ExampleTerms.{at, east, high, bare, stone, dirt, gold, street_of, tower_of, with_states, box_of, all_of, all_fixed, only_leaf, left_alone, left}

-- a second fill with the same state changes nothing
fill_twice : left_alone (street_of (stone ∷ [])) 15 (Pos1 (east 0) ∷ Pos2 (east 0) ∷ Set (all_fixed dirt) ∷ Set (all_fixed dirt) ∷ [])
    ≡ left (Accepted ∷ Accepted ∷ Changed 1 ∷ Changed 0 ∷ []) (dirt ∷ [])
unfolding block_word double_rounds diagonal_round column_round quarter_round u32_at
fill_twice = refl

-- the random word of ticket 2 at the last position of the map is below 2,147,483,648, so the first of two entries of
-- one weight is chosen
random_choice :
    left_alone (box_of (record { least = at (pos 33554431) (pos 2047) (pos 33554431); width = 1; height = 1; length = 1 }) []) 15
    (Pos1 (at (pos 33554431) (pos 2047) (pos 33554431)) ∷ Pos2 (at (pos 33554431) (pos 2047) (pos 33554431))
    ∷ Set (record { entries = record { weight = 50; value = Fixed stone } ∷ record { weight = 50; value = Fixed dirt } ∷ [] }) ∷ [])
    ≡ left (Accepted ∷ Accepted ∷ Changed 1 ∷ []) (stone ∷ [])
unfolding block_word double_rounds diagonal_round column_round quarter_round u32_at
random_choice = refl

-- a replacement above stone reads the world before it: stone on top of stone goes, and so does the air above
replace_above_stone : left_alone (tower_of (bare (codes "minecraft:bedrock") ∷ stone ∷ stone ∷ stone ∷ air ∷ [])) 15
    (Pos1 (high 0) ∷ Pos2 (high 4) ∷ Replace (only_leaf (Below ∷ []) (OneOf (stone ∷ []))) (all_fixed air) ∷ [])
    ≡ left (Accepted ∷ Accepted ∷ Changed 2 ∷ []) (bare (codes "minecraft:bedrock") ∷ stone ∷ air ∷ air ∷ air ∷ [])
unfolding block_word double_rounds diagonal_round column_round quarter_round u32_at
replace_above_stone = refl

-- the global mask limits an edit until it is dropped
global_mask_of_no_position : left_alone (street_of (stone ∷ stone ∷ [])) 15
    (Pos1 (east 0) ∷ Pos2 (east 1) ∷ Gmask (Some (only_leaf [] (Noise 0))) ∷ Set (all_fixed dirt) ∷ Gmask None ∷ Replace (only_leaf [] (Noise 100)) (all_fixed dirt) ∷ [])
    ≡ left (Accepted ∷ Accepted ∷ Accepted ∷ Changed 0 ∷ Accepted ∷ Changed 2 ∷ []) (dirt ∷ dirt ∷ [])
unfolding block_word double_rounds diagonal_round column_round quarter_round u32_at
global_mask_of_no_position = refl

-- a global mask that names the selection refuses every edit without one, also an edit that needs none; a single block
-- is no edit
global_mask_without_selection : left_alone (street_of (stone ∷ stone ∷ [])) 15
    (Gmask (Some (only_leaf [] InSelection)) ∷ Place (east 0) ∷ Sphere (all_fixed dirt) 0 false ∷ Block (east 1) gold ∷ [])
    ≡ left (Accepted ∷ Accepted ∷ Refused NoSelection ∷ Changed 1 ∷ []) (stone ∷ gold ∷ [])
global_mask_without_selection = refl

-- a hollow ball of radius 1 round a corner of its box: the positions with a neighbour outside the whole ball
hollow_ball : left_alone (box_of (record { least = east 0; width = 3; height = 3; length = 3 }) []) 15 (Place (east 0) ∷ Sphere (all_fixed stone) 1 true ∷ [])
    ≡ record {
      replies = Accepted ∷ Changed 6 ∷ [];
      contents = (box_of (record { least = east 0; width = 3; height = 3; length = 3 })
          ((at (pos 1) (pos 0) (pos 0), stone) ∷ (at (pos 0) (pos 1) (pos 0), stone) ∷ (at (pos 0) (pos 0) (pos 1), stone)
          ∷ (at (pos 1) (pos 1) (pos 0), stone) ∷ (at (pos 1) (pos 0) (pos 1), stone) ∷ (at (pos 0) (pos 1) (pos 1), stone) ∷ [])).contents;
    }
unfolding block_word double_rounds diagonal_round column_round quarter_round u32_at
hollow_ball = refl

-- another name keeps the properties, and properties are replaced and added
abbrev birch : State
birch = record { name = codes "minecraft:birch_stairs"; properties = (codes "facing", codes "east") ∷ [] }

stairs_restated : left_alone (street_of (birch ∷ [])) 15
    (Pos1 (east 0) ∷ Pos2 (east 0) ∷ Set (all_of (Rename (codes "minecraft:oak_stairs"))) ∷ Set (all_of (Put ((codes "facing", codes "north") ∷ (codes "half", codes "top") ∷ []))) ∷ [])
    ≡ left (Accepted ∷ Accepted ∷ Changed 1 ∷ Changed 1 ∷ []) (record { name = codes "minecraft:oak_stairs"; properties = (codes "facing", codes "north") ∷ (codes "half", codes "top") ∷ [] } ∷ [])
unfolding block_word double_rounds diagonal_round column_round quarter_round u32_at
stairs_restated = refl

-- ---- stack and move

-- a stack is cut by the box
stack_cut_by_the_box : left_alone (tower_of (stone ∷ dirt ∷ air ∷ air ∷ air ∷ air ∷ air ∷ [])) 15 (Pos1 (high 0) ∷ Pos2 (high 1) ∷ Stack 3 Up ∷ [])
    ≡ left (Accepted ∷ Accepted ∷ Changed 5 ∷ []) (stone ∷ dirt ∷ stone ∷ dirt ∷ stone ∷ dirt ∷ stone ∷ [])
stack_cut_by_the_box = refl

-- a move over its own source
move_over_its_source : left_alone (street_of (replicate 14 air ++ stone ∷ dirt ∷ gold ∷ air ∷ air ∷ air ∷ [])) 15 (Pos1 (east 14) ∷ Pos2 (east 16) ∷ Move 1 East ∷ [])
    ≡ left (Accepted ∷ Accepted ∷ Changed 4 ∷ []) (replicate 15 air ++ stone ∷ dirt ∷ gold ∷ air ∷ air ∷ [])
move_over_its_source = refl

-- ---- clipboards

-- the box from 1,0,1 to 7,0,7
abbrev garden : Area
garden = record { least = at (pos 1) (pos 0) (pos 1); width = 7; height = 1; length = 7 }

abbrev ground_at : ℕ → ℕ → Pos
ground_at x z = at (pos x) (pos 0) (pos z)

abbrev stairs : List ℕ → State
stairs facing = record { name = codes "minecraft:oak_stairs"; properties = (codes "facing", facing) ∷ (codes "half", codes "bottom") ∷ [] }

abbrev log : List ℕ → State
log axis = record { name = codes "minecraft:oak_log"; properties = (codes "axis", axis) ∷ [] }

abbrev planted : World
planted = box_of garden
    ((ground_at 2 2, stone) ∷ (ground_at 3 2, stairs (codes "east")) ∷ (ground_at 2 1, log (codes "x")) ∷ (ground_at 1 1, gold) ∷ (ground_at 6 5, bare (codes "minecraft:glass")) ∷ [])

-- a sphere selection of radius 1 is copied, turned or flipped, and pasted without its air
abbrev pasted_after : Command → List Command
pasted_after change =
    Sel sphere_kind ∷ Pos1 (ground_at 2 2) ∷ Pos2 (ground_at 3 2) ∷ Place (ground_at 2 2) ∷ Copy ∷ change ∷ Place (ground_at 6 6) ∷ Paste true ∷ []

paste_after_a_turn : left_alone planted 15 (pasted_after (Rotate 1))
    ≡ record {
      replies = replicate 7 Accepted ++ Changed 3 ∷ [];
      contents = with_states garden ((ground_at 6 6, stone) ∷ (ground_at 6 7, stairs (codes "south")) ∷ (ground_at 7 6, log (codes "z")) ∷ []) planted.contents;
    }
paste_after_a_turn = refl

paste_after_a_flip : left_alone planted 15 (pasted_after (Flip West))
    ≡ record {
      replies = replicate 7 Accepted ++ Changed 3 ∷ [];
      contents = with_states garden ((ground_at 6 6, stone) ∷ (ground_at 5 6, stairs (codes "west")) ∷ (ground_at 6 5, log (codes "x")) ∷ []) planted.contents;
    }
paste_after_a_flip = refl

-- a pattern repeats the clipboard
tiled_clipboard : left_alone (street_of (stone ∷ dirt ∷ air ∷ air ∷ air ∷ air ∷ [])) 15
    (Pos1 (east 0) ∷ Pos2 (east 1) ∷ Place (east 0) ∷ Copy ∷ Pos1 (east 2) ∷ Pos2 (east 5) ∷ Set (all_of Clipboard) ∷ [])
    ≡ left (replicate 6 Accepted ++ Changed 4 ∷ []) (stone ∷ dirt ∷ stone ∷ dirt ∷ stone ∷ dirt ∷ [])
unfolding block_word double_rounds diagonal_round column_round quarter_round u32_at
tiled_clipboard = refl

-- a clipboard keeps what stood before its copy, whatever comes after: a cut takes what it leaves as air
cut_and_paste : left_alone (street_of (stone ∷ dirt ∷ gold ∷ air ∷ [])) 15
    (Pos1 (east 0) ∷ Pos2 (east 1) ∷ Place (east 0) ∷ Cut ∷ Block (east 0) gold ∷ Place (east 2) ∷ Paste false ∷ [])
    ≡ left (Accepted ∷ Accepted ∷ Accepted ∷ Changed 2 ∷ Changed 1 ∷ Accepted ∷ Changed 2 ∷ []) (gold ∷ air ∷ stone ∷ dirt ∷ [])
cut_and_paste = refl

-- ---- refusals

-- a copy without a selection, and one with a selection and no place
copy_refused : left_alone (street_of (stone ∷ [])) 15 (Copy ∷ Pos1 (east 0) ∷ Pos2 (east 0) ∷ Copy ∷ [])
    ≡ left (Refused NoSelection ∷ Accepted ∷ Accepted ∷ Refused NoPlace ∷ []) (stone ∷ [])
copy_refused = refl

-- a paste without a place and a clipboard wants the place first
paste_refused : left_alone (street_of (stone ∷ [])) 15 (Paste false ∷ Place (east 0) ∷ Paste false ∷ [])
    ≡ left (Refused NoPlace ∷ Accepted ∷ Refused NoClipboard ∷ []) (stone ∷ [])
paste_refused = refl

-- a pattern that names the clipboard wants one, once the selection is there; a turn wants one too
clipboard_refused : left_alone (street_of (stone ∷ [])) 15
    (Set (all_of Clipboard) ∷ Pos1 (east 0) ∷ Pos2 (east 0) ∷ Set (all_of Clipboard) ∷ Rotate 1 ∷ Flip Up ∷ [])
    ≡ left (Refused NoSelection ∷ Accepted ∷ Accepted ∷ Refused NoClipboard ∷ Refused NoClipboard ∷ Refused NoClipboard ∷ []) (stone ∷ [])
clipboard_refused = refl
