-- Worked examples of turns and flips, each by computation: the rows of the turn table, a state, a position, a copy.
use Rattle.std.proofs.Common.{◌≡◌, ℕ, false, refl, List, [], ◌∷◌, map, Some, None, pos, negsuc}
use Rattle.std.specs.Prelude.{codes}
use Rattle.edit_terms.specs.declared.region.Kind.TheVariants.{Sphere}
use Rattle.edit_terms.specs.declared.clip.Clip.{Clip}
use Rattle.edit_terms.specs.declared.direction.Direction.TheVariants.{West}
use Rattle.edit_terms.specs.StateText.{State, air}
use Rattle.edit_terms.specs.World.{World, without_entity}
use Rattle.edit_terms.specs.Transform.{Words, decimals, turned_property, quarter_table, x_table, y_table, z_table, quarter_turned_position, flipped_position, turned_state}
use Rattle.edit_terms.specs.Frame.{root}
use Rattle.edit_terms.specs.Clipboard.{clip_box_of, clipboard_of}

-- the values of a key and what a table makes of them
abbrev values : List ℕ → List (List ℕ) → Words
values key words = map (λ w. (key, w)) words

quarter_turn_of_facing : map (turned_property quarter_table) (values (codes "facing") (codes "north" ∷ codes "east" ∷ codes "south" ∷ codes "west" ∷ codes "up" ∷ codes "down" ∷ []))
    ≡ values (codes "facing") (codes "east" ∷ codes "south" ∷ codes "west" ∷ codes "north" ∷ codes "up" ∷ codes "down" ∷ [])
quarter_turn_of_facing = refl

quarter_turn_of_axis : map (turned_property quarter_table) (values (codes "axis") (codes "x" ∷ codes "y" ∷ codes "z" ∷ [])) ≡ values (codes "axis") (codes "z" ∷ codes "y" ∷ codes "x" ∷ [])
quarter_turn_of_axis = refl

quarter_turn_of_keys : map (turned_property quarter_table) ((codes "north", codes "true") ∷ (codes "east", codes "low") ∷ (codes "south", codes "tall") ∷ (codes "west", codes "false") ∷ [])
    ≡ (codes "east", codes "true") ∷ (codes "south", codes "low") ∷ (codes "west", codes "tall") ∷ (codes "north", codes "false") ∷ []
quarter_turn_of_keys = refl

quarter_turn_of_rotation : map (turned_property quarter_table) (values (codes "rotation") decimals)
    ≡ values (codes "rotation") (codes "4" ∷ codes "5" ∷ codes "6" ∷ codes "7" ∷ codes "8" ∷ codes "9" ∷ codes "10" ∷ codes "11" ∷ codes "12" ∷ codes "13" ∷ codes "14" ∷ codes "15" ∷ codes "0" ∷ codes "1" ∷ codes "2" ∷ codes "3" ∷ [])
quarter_turn_of_rotation = refl

flip_x_of_facing : map (turned_property x_table) (values (codes "facing") (codes "north" ∷ codes "east" ∷ codes "south" ∷ codes "west" ∷ codes "up" ∷ []))
    ≡ values (codes "facing") (codes "north" ∷ codes "west" ∷ codes "south" ∷ codes "east" ∷ codes "up" ∷ [])
flip_x_of_facing = refl

flip_x_of_rotation : map (turned_property x_table) (values (codes "rotation") decimals)
    ≡ values (codes "rotation") (codes "0" ∷ codes "15" ∷ codes "14" ∷ codes "13" ∷ codes "12" ∷ codes "11" ∷ codes "10" ∷ codes "9" ∷ codes "8" ∷ codes "7" ∷ codes "6" ∷ codes "5" ∷ codes "4" ∷ codes "3" ∷ codes "2" ∷ codes "1" ∷ [])
flip_x_of_rotation = refl

flip_x_of_keys : map (turned_property x_table) ((codes "east", codes "low") ∷ (codes "north", codes "true") ∷ (codes "axis", codes "x") ∷ [])
    ≡ (codes "west", codes "low") ∷ (codes "north", codes "true") ∷ (codes "axis", codes "x") ∷ []
flip_x_of_keys = refl

flip_z_of_facing : map (turned_property z_table) (values (codes "facing") (codes "north" ∷ codes "east" ∷ codes "south" ∷ codes "west" ∷ codes "up" ∷ []))
    ≡ values (codes "facing") (codes "south" ∷ codes "east" ∷ codes "north" ∷ codes "west" ∷ codes "up" ∷ [])
flip_z_of_facing = refl

flip_z_of_rotation : map (turned_property z_table) (values (codes "rotation") decimals)
    ≡ values (codes "rotation") (codes "8" ∷ codes "7" ∷ codes "6" ∷ codes "5" ∷ codes "4" ∷ codes "3" ∷ codes "2" ∷ codes "1" ∷ codes "0" ∷ codes "15" ∷ codes "14" ∷ codes "13" ∷ codes "12" ∷ codes "11" ∷ codes "10" ∷ codes "9" ∷ [])
flip_z_of_rotation = refl

flip_y_of_facing_and_half : map (turned_property y_table) ((codes "facing", codes "up") ∷ (codes "facing", codes "north") ∷ (codes "half", codes "top") ∷ (codes "rotation", codes "3") ∷ [])
    ≡ (codes "facing", codes "down") ∷ (codes "facing", codes "north") ∷ (codes "half", codes "top") ∷ (codes "rotation", codes "3") ∷ []
flip_y_of_facing_and_half = refl

not_a_rotation : turned_property quarter_table (codes "rotation", codes "04") ≡ (codes "rotation", codes "04")
not_a_rotation = refl

-- keys that change are sorted again
turned_keys_are_sorted : turned_state (record { flip_x = false; flip_y = false; turns = 5 }) (record { name = codes "minecraft:oak_fence"; properties = (codes "east", codes "true") ∷ (codes "north", codes "false") ∷ [] })
    ≡ record { name = codes "minecraft:oak_fence"; properties = (codes "east", codes "false") ∷ (codes "south", codes "true") ∷ [] }
turned_keys_are_sorted = refl

east_turns_to_south : quarter_turned_position (record { x = pos 3; y = pos 7; z = negsuc 1 }) ≡ record { x = pos 2; y = pos 7; z = pos 3 }
east_turns_to_south = refl

flipped_west : flipped_position West (record { x = pos 3; y = pos 7; z = negsuc 1 }) ≡ record { x = negsuc 2; y = pos 7; z = negsuc 1 }
flipped_west = refl

-- ---- a copied sphere, turned once

-- the sphere about 2,0,2 that 3,0,2 lies on, copied from its centre
abbrev turned_clip : Clip
turned_clip = record {
  source = record { player = 0; step = 4 };
  from = record { kind = Sphere; first = record { x = pos 2; y = pos 0; z = pos 2 }; second = record { x = pos 3; y = pos 0; z = pos 2 } };
  origin = record { x = pos 2; y = pos 0; z = pos 2 };
  transform = record { flip_x = false; flip_y = false; turns = 1 };
}

abbrev block : List ℕ → State
block name = record { name = name; properties = [] }

abbrev stairs : List ℕ → State
stairs facing = record { name = codes "minecraft:oak_stairs"; properties = (codes "facing", facing) ∷ (codes "half", codes "bottom") ∷ [] }

abbrev log : List ℕ → State
log axis = record { name = codes "minecraft:oak_log"; properties = (codes "axis", axis) ∷ [] }

-- one layer of four by four blocks
abbrev garden : World
garden = record {
  area = record { least = record { x = pos 0; y = pos 0; z = pos 0 }; width = 4; height = 1; length = 4 };
  contents = map without_entity (
      air ∷ air ∷ air ∷ air
      ∷ air ∷ block (codes "minecraft:gold_block") ∷ log (codes "x") ∷ air
      ∷ air ∷ air ∷ block (codes "minecraft:stone") ∷ stairs (codes "east")
      ∷ air ∷ air ∷ air ∷ air ∷ []);
}

-- the world has one layer of the sphere's bounding box
bounds_are_cut_by_the_world : clip_box_of turned_clip garden.area ≡ Some (record { least = record { x = negsuc 0; y = pos 0; z = negsuc 0 }; width = 3; height = 1; length = 3 })
unfolding root
bounds_are_cut_by_the_world = refl

stairs_turn_with_their_place : (clipboard_of turned_clip garden).at (record { x = pos 0; y = pos 0; z = pos 1 }) ≡ Some (without_entity (stairs (codes "south")))
stairs_turn_with_their_place = refl

log_turns_with_its_place : (clipboard_of turned_clip garden).at (record { x = pos 1; y = pos 0; z = pos 0 }) ≡ Some (without_entity (log (codes "z")))
log_turns_with_its_place = refl

corner_is_not_copied : (clipboard_of turned_clip garden).at (record { x = pos 1; y = pos 0; z = negsuc 0 }) ≡ None
corner_is_not_copied = refl

outside_is_not_copied : (clipboard_of turned_clip garden).at (record { x = pos 0; y = pos 1; z = pos 0 }) ≡ None
outside_is_not_copied = refl
