-- Worked examples: small cases of the definitions, with their answers.
use Rattle.std.proofs.Common.{◌≡◌, ℕ, ◌+◌, ◌*◌, true, false, ℤ, pos, negsuc, List, [], ◌∷◌, Some, None, refl}
use Rattle.std.specs.Prelude.{codes}
use Rattle.edit_terms.specs.declared.pos.Pos.{Pos}
use Rattle.edit_terms.specs.declared.region.Kind.TheVariants.{Cuboid}
use Rattle.edit_terms.specs.declared.region.Selection.{Selection}
use Rattle.edit_terms.specs.Area.{Area, volume, holds, index_of, position_of, is_world_box, chunks, chunk_of}
use Rattle.edit_terms.specs.StateText.{is_block_name, with_namespace, is_properties, property_of, is_air}
use Rattle.edit_terms.specs.Region.{is_selected}

abbrev at : ℤ → ℤ → ℤ → Pos
at x y z = record { x = x; y = y; z = z }

-- the box 3,2,5 at -2,3,-4
abbrev small_box : Area
small_box = record { least = at (negsuc 1) (pos 3) (negsuc 3); width = 3; height = 2; length = 5 }

-- its block -1,4,-2 is one east, one up and two south of the least corner
pub index_in_a_small_box : index_of small_box (at (negsuc 0) (pos 4) (negsuc 1)) ≡ 1 + 2 * 3 + 1 * (3 * 5)
index_in_a_small_box = refl

pub position_in_a_small_box : position_of small_box 22 ≡ at (negsuc 0) (pos 4) (negsuc 1)
position_in_a_small_box = refl

-- its last block is the last of the list of 30
pub last_index_in_a_small_box : index_of small_box (at (pos 0) (pos 4) (pos 0)) ≡ 29
last_index_in_a_small_box = refl

pub volume_of_a_small_box : volume small_box ≡ 30
volume_of_a_small_box = refl

-- it holds its last block, and not the next ones along each axis
pub last_block_of_a_small_box : holds small_box (at (pos 0) (pos 4) (pos 0)) ≡ true
last_block_of_a_small_box = refl

pub past_a_small_box_along_x : holds small_box (at (pos 1) (pos 4) (pos 0)) ≡ false
past_a_small_box_along_x = refl

pub past_a_small_box_along_y : holds small_box (at (pos 0) (pos 5) (pos 0)) ≡ false
past_a_small_box_along_y = refl

pub past_a_small_box_along_z : holds small_box (at (pos 0) (pos 4) (pos 1)) ≡ false
past_a_small_box_along_z = refl

-- a size of 65,535 is that of a world's box, and 65,536 isn't
pub longest_box : is_world_box (record { least = at (pos 0) (pos 0) (pos 0); width = 65535; height = 1; length = 1 }) ≡ true
longest_box = refl

pub longer_than_the_longest_box : is_world_box (record { least = at (pos 0) (pos 0) (pos 0); width = 65536; height = 1; length = 1 }) ≡ false
longer_than_the_longest_box = refl

-- the box 17,1,17 at -1,0,-1 has four chunks, one of them with a single block
abbrev corner_box : Area
corner_box = record { least = at (negsuc 0) (pos 0) (negsuc 0); width = 17; height = 1; length = 17 }

pub chunks_round_a_corner : chunks corner_box ≡ 4
chunks_round_a_corner = refl

pub north_west_chunk : chunk_of corner_box (at (negsuc 0) (pos 0) (negsuc 0)) ≡ 0
north_west_chunk = refl

pub north_east_chunk : chunk_of corner_box (at (pos 0) (pos 0) (negsuc 0)) ≡ 1
north_east_chunk = refl

pub south_west_chunk : chunk_of corner_box (at (negsuc 0) (pos 0) (pos 0)) ≡ 2
south_west_chunk = refl

pub south_east_chunk : chunk_of corner_box (at (pos 0) (pos 0) (pos 0)) ≡ 3
south_east_chunk = refl

-- a block's name has a namespace; the text of one without it stands for one of minecraft
pub name_with_namespace : is_block_name (codes "minecraft:oak_stairs") ≡ true
name_with_namespace = refl

pub name_without_namespace : is_block_name (codes "oak_stairs") ≡ false
name_without_namespace = refl

pub name_with_two_colons : is_block_name (codes "a:b:c") ≡ false
name_with_two_colons = refl

pub namespace_is_added : with_namespace (codes "oak_stairs") ≡ codes "minecraft:oak_stairs"
namespace_is_added = refl

pub namespace_is_kept : with_namespace (codes "mod:oak_stairs") ≡ codes "mod:oak_stairs"
namespace_is_kept = refl

-- keys rise, and each stands once
abbrev facing_and_half : List (List ℕ × List ℕ)
facing_and_half = (codes "facing", codes "east") ∷ (codes "half", codes "top") ∷ []

pub rising_properties : is_properties facing_and_half ≡ true
rising_properties = refl

pub falling_properties : is_properties ((codes "half", codes "top") ∷ (codes "facing", codes "east") ∷ []) ≡ false
falling_properties = refl

pub repeated_property : is_properties ((codes "half", codes "top") ∷ (codes "half", codes "bottom") ∷ []) ≡ false
repeated_property = refl

pub property_that_is_there : property_of facing_and_half (codes "half") ≡ Some (codes "top")
property_that_is_there = refl

pub property_that_is_not_there : property_of facing_and_half (codes "shape") ≡ None
property_that_is_not_there = refl

-- void air is air, whatever its properties
pub void_air_is_air : is_air (record { name = codes "minecraft:void_air"; properties = facing_and_half }) ≡ true
void_air_is_air = refl

pub glass_is_not_air : is_air (record { name = codes "minecraft:glass"; properties = [] }) ≡ false
glass_is_not_air = refl

-- the cuboid of 4,-1,2 and 1,3,2, its corners given in either order
abbrev cuboid : Selection
cuboid = record { kind = Cuboid; first = at (pos 4) (negsuc 0) (pos 2); second = at (pos 1) (pos 3) (pos 2) }

pub corner_of_a_cuboid : is_selected cuboid (at (pos 1) (negsuc 0) (pos 2)) ≡ true
corner_of_a_cuboid = refl

pub past_a_cuboid : is_selected cuboid (at (pos 5) (negsuc 0) (pos 2)) ≡ false
past_a_cuboid = refl
