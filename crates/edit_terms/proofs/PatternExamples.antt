-- Worked examples of pattern values, each by computation.
use Rattle.std.proofs.Common.{◌≡◌, ℕ, false, cond, refl, List, [], ◌∷◌, map, Some, pos, negsuc}
use Rattle.std.specs.Prelude.{codes, bytes_eq}
use Rattle.std.specs.List.{range_with_len}
use Rattle.edit_terms.specs.declared.pos.Pos.{Pos}
use Rattle.edit_terms.specs.declared.region.Kind.TheVariants.{Cuboid}
use Rattle.edit_terms.specs.declared.clip.Clip.{Clip}
use Rattle.edit_terms.specs.declared.pattern.Value.TheVariants.{Fixed, Rename, Put, RenamePut}
use Rattle.edit_terms.specs.StateText.{State, air}
use Rattle.edit_terms.specs.World.{World, BlockContent, EntityTags, without_entity}
use Rattle.edit_terms.specs.Clipboard.{CopiedBlocks, clipboard_of, no_blocks, tiled}
use Rattle.edit_terms.specs.Pattern.{applied}

abbrev stairs : List ℕ → List (List ℕ × List ℕ) → State
stairs name properties = record { name = name; properties = properties }

-- birch stairs that face east, with an entity
abbrev tags : EntityTags
tags = record { before = 7 ∷ []; after = [] }

abbrev old : BlockContent
old = record { state = stairs (codes "minecraft:birch_stairs") ((codes "facing", codes "east") ∷ []); entity = Some tags }

fixed_drops_the_entity : applied (Fixed old.state) old ≡ without_entity old.state
fixed_drops_the_entity = refl

-- ^oak_stairs
another_name_keeps_properties : applied (Rename (codes "minecraft:oak_stairs")) old ≡ without_entity (stairs (codes "minecraft:oak_stairs") ((codes "facing", codes "east") ∷ []))
another_name_keeps_properties = refl

the_same_name_keeps_the_entity : applied (Rename (codes "minecraft:birch_stairs")) old ≡ old
the_same_name_keeps_the_entity = refl

-- ^[half=top,facing=north]
properties_are_replaced_and_added : applied (Put ((codes "facing", codes "north") ∷ (codes "half", codes "top") ∷ [])) old
    ≡ record { state = stairs (codes "minecraft:birch_stairs") ((codes "facing", codes "north") ∷ (codes "half", codes "top") ∷ []); entity = Some tags }
properties_are_replaced_and_added = refl

-- ^oak_stairs[half=top]
both_at_once : applied (RenamePut (stairs (codes "minecraft:oak_stairs") ((codes "half", codes "top") ∷ []))) old
    ≡ without_entity (stairs (codes "minecraft:oak_stairs") ((codes "facing", codes "east") ∷ (codes "half", codes "top") ∷ []))
both_at_once = refl

-- sixteen properties, a to p
abbrev sixteen : List (List ℕ × List ℕ)
sixteen = map (λ n. (n ∷ [], codes "0")) (range_with_len 97 16)

abbrev crowded : BlockContent
crowded = record { state = stairs (codes "minecraft:crowd") sixteen; entity = Some tags }

a_seventeenth_property_changes_nothing : applied (RenamePut (stairs (codes "minecraft:other") ((codes "q", codes "0") ∷ []))) crowded ≡ crowded
a_seventeenth_property_changes_nothing = refl

a_sixteenth_is_replaced : (applied (Put ((codes "p", codes "1") ∷ [])) crowded).state ≡ stairs (codes "minecraft:crowd") (map (λ n. (n ∷ [], cond (bytes_eq (n ∷ []) (codes "p")) (codes "1") (codes "0"))) (range_with_len 97 16))
a_sixteenth_is_replaced = refl

-- ---- a clipboard of two blocks, repeated

abbrev stone : State
stone = record { name = codes "minecraft:stone"; properties = [] }

abbrev dirt : State
dirt = record { name = codes "minecraft:dirt"; properties = [] }

abbrev place : ℕ → Pos
place x = record { x = pos x; y = pos 0; z = pos 0 }

-- stone, dirt and four of air
abbrev street : World
street = record {
  area = record { least = place 0; width = 6; height = 1; length = 1 };
  contents = map without_entity (stone ∷ dirt ∷ air ∷ air ∷ air ∷ air ∷ []);
}

-- its first two blocks, copied from the first
abbrev pair : Clip
pair = record {
  source = record { player = 0; step = 3 };
  from = record { kind = Cuboid; first = place 0; second = place 1 };
  origin = place 0;
  transform = record { flip_x = false; flip_y = false; turns = 0 };
}

abbrev copied : CopiedBlocks
copied = clipboard_of pair street

tiles_of_two : map (λ x. (tiled copied (place x) (without_entity air)).state) (range_with_len 2 4) ≡ stone ∷ dirt ∷ stone ∷ dirt ∷ []
tiles_of_two = refl

-- the remainder of -1 by 2 is 1
tile_of_a_negative_position : (tiled copied (record { x = negsuc 0; y = negsuc 4; z = pos 9 }) (without_entity air)).state ≡ dirt
tile_of_a_negative_position = refl

no_bounds_leave_the_old_content : tiled no_blocks (place 3) old ≡ old
no_bounds_leave_the_old_content = refl
