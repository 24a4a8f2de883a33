-- The places of random words at the ends of the map, and the word at the last one.
use Rattle.std.proofs.Common.{◌≡◌, pos, negsuc, refl}
use Rattle.rand_chacha.specs.Block.{block_word, double_rounds, diagonal_round, column_round, quarter_round}
use Rattle.rand_core.specs.Steps.{u32_at}
use Rattle.edit_terms.specs.Draw.{draw_place, draw_word, pattern_use}

place_of_the_last_position : draw_place (record { x = pos 33554431; y = pos 2047; z = pos 33554431 }) pattern_use ≡ 295147905179352825848
place_of_the_last_position = refl

place_of_the_first_position : draw_place (record { x = negsuc 33554431; y = negsuc 2047; z = negsuc 33554431 }) 0 ≡ 0
place_of_the_first_position = refl

word_at_the_last_position : draw_word 0 2 pattern_use (record { x = pos 33554431; y = pos 2047; z = pos 33554431 }) ≡ 400537977
unfolding block_word double_rounds diagonal_round column_round quarter_round u32_at
word_at_the_last_position = refl
