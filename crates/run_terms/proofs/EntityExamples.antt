-- Worked examples of block entities, each by computation: they go with their blocks, and overwriting drops them.
use Rattle.std.proofs.Common.{◌≡◌, false, [], ◌∷◌, ◌++◌, refl, Some}
use Rattle.std.specs.Prelude.{codes, replicate}
use Rattle.rand_chacha.specs.Block.{block_word, double_rounds, diagonal_round, column_round, quarter_round}
use Rattle.rand_core.specs.Steps.{u32_at}
use Rattle.edit_terms.specs.declared.direction.Direction.TheVariants.{East}
use Rattle.edit_terms.specs.declared.pattern.Value.TheVariants.{Put}
use Rattle.edit_terms.specs.declared.script.Command.TheVariants.{Pos1, Pos2, Place, Set, Move, Copy, Paste, Rotate, Undo}
use Rattle.edit_terms.specs.declared.outcome.Reply.TheVariants.{Accepted, Changed}
use Rattle.edit_terms.specs.StateText.{State}
use Rattle.edit_terms.specs.World.{BlockContent, EntityTags, World, without_entity, air_content}
use Rattle.run_terms.proofs.ExampleTerms.{east, bare, street, all_of, all_fixed, left_alone}

abbrev chest : State
chest = bare (codes "minecraft:chest")

-- the spellings of a chest's tags before and after its position
abbrev tags : EntityTags
tags = record { before = codes "Id"; after = codes "Items" }

abbrev full_chest : BlockContent
full_chest = record { state = chest; entity = Some tags }

-- a chest with an entity, and two blocks of air
abbrev hall : World
hall = street (full_chest ∷ air_content ∷ air_content ∷ [])

move_carries_an_entity : left_alone hall 15 (Pos1 (east 0) ∷ Pos2 (east 0) ∷ Move 1 East ∷ [])
    ≡ record { replies = Accepted ∷ Accepted ∷ Changed 2 ∷ []; contents = air_content ∷ full_chest ∷ air_content ∷ [] }
move_carries_an_entity = refl

undo_brings_it_back : left_alone hall 15 (Pos1 (east 0) ∷ Pos2 (east 0) ∷ Move 1 East ∷ Undo 1 ∷ [])
    ≡ record { replies = Accepted ∷ Accepted ∷ Changed 2 ∷ Changed 2 ∷ []; contents = full_chest ∷ air_content ∷ air_content ∷ [] }
undo_brings_it_back = refl

-- the same state put over it changes the block, since the entity goes
overwriting_drops_it : left_alone hall 15 (Pos1 (east 0) ∷ Pos2 (east 0) ∷ Set (all_fixed chest) ∷ [])
    ≡ record { replies = Accepted ∷ Accepted ∷ Changed 1 ∷ []; contents = without_entity chest ∷ air_content ∷ air_content ∷ [] }
unfolding block_word double_rounds diagonal_round column_round quarter_round u32_at
overwriting_drops_it = refl

-- other properties under the same name keep it
properties_keep_it : left_alone hall 15 (Pos1 (east 0) ∷ Pos2 (east 0) ∷ Set (all_of (Put ((codes "facing", codes "north") ∷ []))) ∷ [])
    ≡ record {
      replies = Accepted ∷ Accepted ∷ Changed 1 ∷ [];
      contents = record { state = record { name = codes "minecraft:chest"; properties = (codes "facing", codes "north") ∷ [] }; entity = Some tags } ∷ air_content ∷ air_content ∷ [];
    }
unfolding block_word double_rounds diagonal_round column_round quarter_round u32_at
properties_keep_it = refl

-- a paste carries it too, and the copied one stays
paste_doubles_it : left_alone hall 15 (Pos1 (east 0) ∷ Pos2 (east 0) ∷ Place (east 0) ∷ Copy ∷ Rotate 2 ∷ Place (east 2) ∷ Paste false ∷ [])
    ≡ record { replies = replicate 6 Accepted ++ Changed 1 ∷ []; contents = full_chest ∷ air_content ∷ full_chest ∷ [] }
paste_doubles_it = refl
