-- What masks say of a small world, and how their noise leaves are numbered.
use Rattle.std.proofs.Common.{◌≡◌, ℕ, Bool, true, false, List, [], ◌∷◌, None, ℤ, pos, negsuc, refl}
use Rattle.std.specs.Prelude.{codes, map}
use Rattle.edit_terms.specs.declared.pos.Pos.{Pos}
use Rattle.edit_terms.specs.declared.mask.Sign.TheVariants.{Not, Below, Above}
use Rattle.edit_terms.specs.declared.mask.Leaf.{Leaf}
use Rattle.edit_terms.specs.declared.mask.Leaf.TheVariants.{Noise, Existing, Has, OneOf}
use Rattle.edit_terms.specs.declared.mask.Sign.{Sign}
use Rattle.edit_terms.specs.declared.mask.Term.{Term}
use Rattle.edit_terms.specs.declared.mask.Mask.{Mask}
use Rattle.edit_terms.specs.StateText.{State}
use Rattle.edit_terms.specs.World.{World, without_entity, air_content}
use Rattle.edit_terms.specs.Draw.{mask_use, global_mask_use}
use Rattle.edit_terms.specs.Mask.{Scene, mask_holds, numbered}

abbrev named : List ℕ → State
named text = record { name = text; properties = [] }

abbrev stone : State
stone = named (codes "minecraft:stone")

abbrev stairs : State
stairs = record { name = codes "minecraft:oak_stairs"; properties = (codes "facing", codes "east") ∷ (codes "half", codes "top") ∷ [] }

abbrev origin : Pos
origin = record { x = pos 0; y = pos 0; z = pos 0 }

abbrev at_height : ℤ → Pos
at_height y = record origin { y = y }

abbrev heights : List ℤ
heights = negsuc 0 ∷ pos 0 ∷ pos 1 ∷ pos 2 ∷ pos 3 ∷ pos 4 ∷ pos 5 ∷ []

-- bedrock, three of stone, and air
abbrev pillar : World
pillar = record {
  area = record { least = origin; width = 1; height = 5; length = 1 };
  contents = without_entity (named (codes "minecraft:bedrock")) ∷ without_entity stone ∷ without_entity stone ∷ without_entity stone ∷ air_content ∷ [];
}

-- one block of stairs
abbrev step : World
step = record { area = record { least = origin; width = 1; height = 1; length = 1 }; contents = without_entity stairs ∷ [] }

abbrev scene_of : World → Scene
scene_of w = record { world = w; selection = None; seed = 0; ticket = 2 }

abbrev term : List Sign → Leaf → Term
term signs leaf = record { signs = signs; leaf = leaf }

abbrev one_term : List Sign → Leaf → Mask
one_term signs leaf = record { terms = term signs leaf ∷ [] }

-- where a mask holds in the pillar, from one block below the box to one above it
abbrev in_pillar : Mask → List Bool
in_pillar mask = map (λ y. mask_holds mask mask_use (scene_of pillar) (at_height y)) heights

mask_of_the_block_below : in_pillar (one_term (Below ∷ []) (OneOf (stone ∷ []))) ≡ false ∷ false ∷ false ∷ true ∷ true ∷ true ∷ false ∷ []
mask_of_the_block_below = refl

mask_of_the_block_above : in_pillar (one_term (Above ∷ []) (OneOf (stone ∷ []))) ≡ false ∷ true ∷ true ∷ true ∷ false ∷ false ∷ false ∷ []
mask_of_the_block_above = refl

-- outside the box a read gives air
existing_blocks : in_pillar (one_term [] Existing) ≡ false ∷ true ∷ true ∷ true ∷ true ∷ false ∷ false ∷ []
existing_blocks = refl

not_existing_blocks : in_pillar (one_term (Not ∷ []) Existing) ≡ true ∷ false ∷ false ∷ false ∷ false ∷ true ∷ true ∷ []
not_existing_blocks = refl

-- the first sign is the outermost: not, what is below the block above, which is the block itself
signs_from_the_outermost : in_pillar (one_term (Not ∷ Above ∷ Below ∷ []) Existing) ≡ true ∷ false ∷ false ∷ false ∷ false ∷ true ∷ true ∷ []
signs_from_the_outermost = refl

abbrev on_step : Leaf → Bool
on_step leaf = mask_holds (one_term [] leaf) mask_use (scene_of step) origin

-- all listed properties are asked for, and no others
listed_properties : on_step (Has ((codes "half", codes "top") ∷ [])) ≡ true × on_step (Has ((codes "half", codes "bottom") ∷ [])) ≡ false × on_step (Has ((codes "shape", codes "straight") ∷ [])) ≡ false × on_step (Has []) ≡ true
listed_properties = (refl, refl, refl, refl)

-- one of the listed states with all the properties that it lists
one_of_two_states : on_step (OneOf (stone ∷ named (codes "minecraft:oak_stairs") ∷ [])) ≡ true × on_step (OneOf (stone ∷ record stairs { properties = (codes "facing", codes "west") ∷ [] } ∷ [])) ≡ false
one_of_two_states = (refl, refl)

abbrev half : Term
half = term [] (Noise 50)

abbrev block : Term
block = term [] Existing

abbrev third : Term
third = term (Not ∷ []) (Noise 33)

-- each noise leaf takes the next number, from 0 in a command's mask and from 4 in the global mask
noise_numbers : numbered mask_use (half ∷ block ∷ third ∷ []) ≡ (0, half) ∷ (1, block) ∷ (1, third) ∷ []
    × numbered global_mask_use (block ∷ third ∷ half ∷ []) ≡ (4, block) ∷ (4, third) ∷ (5, half) ∷ []
noise_numbers = (refl, refl)
