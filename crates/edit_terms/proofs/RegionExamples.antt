-- What the definitions of regions say of shapes that can be counted by hand.
use Rattle.std.proofs.Common.{◌≡◌, ℕ, Bool, true, false, pos, negsuc, refl}
use Rattle.std.specs.List.{count_by, range_with_len}
use Rattle.edit_terms.specs.declared.pos.Pos.{Pos}
use Rattle.edit_terms.specs.declared.region.Kind.TheVariants.{Cuboid, Sphere}
use Rattle.edit_terms.specs.declared.region.Selection.{Selection}
use Rattle.edit_terms.specs.declared.region.Region.{Region}
use Rattle.edit_terms.specs.declared.region.Region.TheVariants.{Selected, Walls, Faces, Ball, Tube}
use Rattle.edit_terms.specs.Area.{Area, volume, position_of}
use Rattle.edit_terms.specs.Region.{is_inside}
use Rattle.edit_terms.specs.Frame.{frame_of, root, common_box}

-- how many positions of a box belong to a region
abbrev blocks : Area → Region → ℕ
blocks box region = count_by (λ i. is_inside region (position_of box i)) (range_with_len 0 (volume box))

-- how many positions the region has, counted in its frame
abbrev size : Region → ℕ
size region = blocks (frame_of region) region

abbrev origin : Pos
origin = record { x = pos 0; y = pos 0; z = pos 0 }

abbrev corner : Pos
corner = record { x = pos 2; y = pos 2; z = pos 2 }

abbrev ball : ℕ → Bool → Region
ball radius hollow = Ball origin radius hollow

abbrev tube : Bool → Region
tube hollow = Tube origin 1 2 hollow

abbrev cube : Selection
cube = record { kind = Cuboid; first = origin; second = corner }

balls_of_radius_0_to_3 : size (ball 0 false) ≡ 1 × size (ball 1 false) ≡ 19 × size (ball 2 false) ≡ 81 × size (ball 3 false) ≡ 179
balls_of_radius_0_to_3 = (refl, refl, refl, refl)

hollow_balls_of_radius_0_and_1 : size (ball 0 true) ≡ 1 × size (ball 1 true) ≡ 18
hollow_balls_of_radius_0_and_1 = (refl, refl)

-- the box 4,4,4 whose least corner is the centre
hollow_ball_cut_by_a_box : blocks (record { least = origin; width = 4; height = 4; length = 4 }) (ball 1 true) ≡ 6
hollow_ball_cut_by_a_box = refl

tube_of_radius_1_and_height_2 : size (tube false) ≡ 18 × size (tube true) ≡ 16
tube_of_radius_1_and_height_2 = (refl, refl)

-- a cube of 3 by 3 by 3: its walls lack the middle column, its faces the middle block
walls_and_faces_of_a_cube : size (Selected cube) ≡ 27 × size (Walls cube) ≡ 24 × size (Faces cube) ≡ 26
walls_and_faces_of_a_cube = (refl, refl, refl)

-- the second position is no farther than the root of 14 blocks away, and whole blocks go to 3
frame_of_a_sphere : frame_of (Selected (record { kind = Sphere; first = origin; second = record { x = pos 1; y = pos 2; z = pos 3 } }))
    ≡ record { least = record { x = negsuc 2; y = negsuc 2; z = negsuc 2 }; width = 7; height = 7; length = 7 }
unfolding root
frame_of_a_sphere = refl

-- the part of a ball's frame in the box 4,4,4 whose least corner is the centre
frame_cut_by_a_box : common_box (frame_of (ball 1 true)) (record { least = origin; width = 4; height = 4; length = 4 }) ≡ record { least = origin; width = 2; height = 2; length = 2 }
frame_cut_by_a_box = refl
