-- Worked examples of limits, each by computation: the last value within, and the first past it.
use Rattle.std.proofs.Common.{◌≡◌, pos, negsuc, true, false, [], ◌∷◌, replicate, refl, Some}
use Rattle.edit_terms.specs.declared.direction.Direction.TheVariants.{Up}
use Rattle.edit_terms.specs.declared.mask.Leaf.TheVariants.{Noise}
use Rattle.edit_terms.specs.declared.pattern.Value.TheVariants.{Fixed}
use Rattle.edit_terms.specs.declared.script.Command.TheVariants.{Pos1, Set, Sphere, Cyl, Stack, Gmask, Rotate, Undo}
use Rattle.run_terms.specs.Limits.{is_command_within}
use Rattle.run_terms.proofs.ExampleTerms.{at, stone, all_fixed}

last_count : is_command_within (Undo 1000) ≡ true
last_count = refl

count_past_the_limit : is_command_within (Undo 1001) ≡ false
count_past_the_limit = refl

no_copies : is_command_within (Stack 0 Up) ≡ false
no_copies = refl

least_radius : is_command_within (Sphere (all_fixed stone) 0 true) ≡ true
least_radius = refl

radius_past_the_limit : is_command_within (Sphere (all_fixed stone) 1001 true) ≡ false
radius_past_the_limit = refl

last_height : is_command_within (Cyl (all_fixed stone) 1000 4096 false) ≡ true
last_height = refl

height_past_the_limit : is_command_within (Cyl (all_fixed stone) 1000 4097 false) ≡ false
height_past_the_limit = refl

last_position : is_command_within (Pos1 (at (pos 33554431) (pos 2047) (negsuc 33554431))) ≡ true
last_position = refl

too_far_east : is_command_within (Pos1 (at (pos 33554432) (pos 0) (pos 0))) ≡ false
too_far_east = refl

too_high : is_command_within (Pos1 (at (pos 0) (pos 2048) (pos 0))) ≡ false
too_high = refl

three_quarters : is_command_within (Rotate 3) ≡ true
three_quarters = refl

whole_turn : is_command_within (Rotate 4) ≡ false
whole_turn = refl

four_noise_leaves : is_command_within (Gmask (Some (record { terms = replicate 4 (record { signs = []; leaf = Noise 100 }) }))) ≡ true
four_noise_leaves = refl

five_noise_leaves : is_command_within (Gmask (Some (record { terms = replicate 5 (record { signs = []; leaf = Noise 100 }) }))) ≡ false
five_noise_leaves = refl

noise_of_more_than_all : is_command_within (Gmask (Some (record { terms = record { signs = []; leaf = Noise 101 } ∷ [] }))) ≡ false
noise_of_more_than_all = refl

last_entries : is_command_within (Set (record { entries = replicate 32 (record { weight = 1000000; value = Fixed stone }) })) ≡ true
last_entries = refl

entries_past_the_limit : is_command_within (Set (record { entries = replicate 33 (record { weight = 1; value = Fixed stone }) })) ≡ false
entries_past_the_limit = refl

no_entries : is_command_within (Set (record { entries = [] })) ≡ false
no_entries = refl

no_weight : is_command_within (Set (record { entries = record { weight = 0; value = Fixed stone } ∷ [] })) ≡ false
no_weight = refl
