-- Numbers packed into words of 64 bits, lowest bits first, as the sections of a chunk keep the numbers of their blocks.
use Rattle.std.specs.Prelude.{ℕ, ◌+◌, ◌-◌, ◌*◌, ◌/◌, ◌%◌, ◌^◌, ◌==◌, nat_le, if◌then◌else◌, List, [], ◌∷◌, map, length, take, drop, get_or, unwrap_or}
use Rattle.std.specs.List.{find, range_with_len}
use Rattle.chunk_sections.specs.declared.width.Width.{Width}
use Rattle.chunk_sections.specs.declared.width.Width.TheVariants.{Zero, One, Two, Four, Eight, Twelve}

-- how many bits a number of the width has
abbrev pub bits_of : Width → ℕ
bits_of Zero = 0
bits_of One = 1
bits_of Two = 2
bits_of Four = 4
bits_of Eight = 8
bits_of Twelve = 12

-- the widths, in bits
abbrev pub widths : List ℕ
widths = 0 ∷ 1 ∷ 2 ∷ 4 ∷ 8 ∷ 12 ∷ []

-- the least width at which so many numbers can be told apart; it is meant for 4,096 at most
abbrev pub least_width : ℕ → ℕ
least_width count = unwrap_or (find (λ bits. nat_le count (2 ^ bits)) widths) 12

-- the number whose digits in a base these are, the lowest first
abbrev pub number_of : ℕ → List ℕ → ℕ
number_of base [] = 0
number_of base (d ∷ ds) = number_of base ds * base + d

-- how many words n numbers take, per to a word
abbrev pub word_count : ℕ → ℕ → ℕ
word_count per n = (n + per - 1) / per

-- word k of numbers that are packed per to a word, each a digit in the base
abbrev pub word_of : ℕ → ℕ → List ℕ → ℕ → ℕ
word_of base per numbers k = number_of base (take per (drop (k * per) numbers))

-- the words of such numbers
abbrev pub packed : ℕ → ℕ → List ℕ → List ℕ
packed base per numbers = map (word_of base per numbers) (range_with_len 0 (word_count per (length numbers)))

-- The words of numbers of a width: as many to a word as fit whole. Numbers of no bits take no words.
abbrev pub words_of : ℕ → List ℕ → List ℕ
words_of bits numbers = if bits == 0 then [] else packed (2 ^ bits) (64 / bits) numbers

-- the number at a place of words that hold per to a word
abbrev pub number_as : ℕ → ℕ → List ℕ → ℕ → ℕ
number_as bits per words i = get_or words (i / per) 0 / 2 ^ (bits * (i % per)) % 2 ^ bits

-- the first numbers of such words
abbrev pub unpacked_as : ℕ → ℕ → ℕ → List ℕ → List ℕ
unpacked_as bits per count words = map (number_as bits per words) (range_with_len 0 count)

-- the number at a place of words of a width, and the first numbers
abbrev pub number_at : ℕ → List ℕ → ℕ → ℕ
number_at bits words i = number_as bits (64 / bits) words i

abbrev pub unpacked : ℕ → ℕ → List ℕ → List ℕ
unpacked bits count words = unpacked_as bits (64 / bits) count words

-- how many words n numbers of a width take
abbrev pub words_needed : ℕ → ℕ → ℕ
words_needed bits n = if bits == 0 then 0 else word_count (64 / bits) n

-- What contracts see of packed numbers: their width in bits, and the numbers.
pub record PackedNumbers : Type 0 where
  pub bits : ℕ
  pub numbers : List ℕ

-- the first numbers that words hold, with their width
abbrev pub packed_numbers : ℕ → ℕ → List ℕ → PackedNumbers
packed_numbers bits count words = record { bits = bits; numbers = unpacked bits count words }
