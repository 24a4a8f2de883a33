-- Packed words give their numbers back.
use Rattle.std.proofs.Common.{◌≡◌, ℕ, zero, suc, ◌+◌, ◌-◌, ◌*◌, ◌/◌, ◌%◌, ◌^◌, ◌<◌, ◌≤◌, List, [], ◌∷◌, All, length, drop, take, get_or, replicate, refl, sym, ap, ◌∙◌, arith}
use Rattle.std.proofs.lemmas.Nat.{div-add-mod', div-mul-add, mod-mul-add, shr-shr, mod_below, le-div}
use Rattle.std.proofs.lemmas.List.{get_or-take, get_or-drop, get_or-replicate, length-replicate}
use Rattle.std.proofs.lemmas.List.Elements.{All-drop, All-take}
use Rattle.std.proofs.lemmas.List.FromFn.{length-map-range_with_len, get_or-map-range_with_len}
use Rattle.std.proofs.lemmas.Grind.{same_number_lists}
use Rattle.std.proofs.Math.Dec.{eqb-suc-zero}
use Rattle.std.proofs.Math.Nat.{zero-div, zero-mod, div-one, mod-one, mul-suc}
use Rattle.chunk_sections.specs.declared.width.Width.{Width}
use Rattle.chunk_sections.specs.declared.width.Width.TheVariants.{Zero, One, Two, Four, Eight, Twelve}
use Rattle.chunk_sections.specs.Packed.{bits_of, number_of, word_of, word_count, words_needed, packed, words_of, number_at, unpacked, packed_numbers}

pub bits_of-narrow : (width : Width) → bits_of width ≤ 12
bits_of-narrow Zero = omega arith
bits_of-narrow One = omega arith
bits_of-narrow Two = omega arith
bits_of-narrow Four = omega arith
bits_of-narrow Eight = omega arith
bits_of-narrow Twelve = omega arith

-- a digit of a number
pub number_of-digit : (bits : ℕ) (ds : List ℕ) (j : ℕ) → All (λ d. d < 2 ^ bits) ds → number_of (2 ^ bits) ds / 2 ^ (bits * j) % 2 ^ bits ≡ get_or ds j 0
number_of-digit bits [] j h = ap (λ n. n % 2 ^ bits) (zero-div (2 ^ (bits * j))) ∙ zero-mod (2 ^ bits)
number_of-digit bits (d ∷ ds) zero h =
    let n : ℕ = number_of (2 ^ bits) ds * 2 ^ bits + d in
    let none : bits * 0 ≡ 0 = omega arith in
    ap (λ k. n / 2 ^ k % 2 ^ bits) none ∙ ap (λ m. m % 2 ^ bits) (div-one n) ∙ mod-mul-add (number_of (2 ^ bits) ds) (2 ^ bits) d (h 0 d (omega arith))
number_of-digit bits (d ∷ ds) (suc j) h =
    let n : ℕ = number_of (2 ^ bits) ds * 2 ^ bits + d in
    let next : bits * suc j ≡ bits + bits * j = omega (arith, mul-suc bits j) in
    ap (λ k. n / 2 ^ k % 2 ^ bits) next
    ∙ ap (λ m. m % 2 ^ bits) (sym (shr-shr n bits (bits * j)))
    ∙ ap (λ m. m / 2 ^ (bits * j) % 2 ^ bits) (div-mul-add (number_of (2 ^ bits) ds) (2 ^ bits) d (h 0 d (omega arith)))
    ∙ number_of-digit bits ds j (λ k e lt. h (suc k) e (omega arith))

-- the word of a place is there
pub word_there : (per n i : ℕ) → 0 < per → i < n → i / per < word_count per n
word_there per n i some l =
    let split : i / per * per + i % per ≡ i = div-add-mod' i per in
    let up : (i / per + 1) * per ≤ n + per - 1 = omega arith in
    omega (arith, le-div (i / per + 1) (n + per - 1) per some up)

-- a number that was packed, at its place
at_place : (bits per : ℕ) (ns : List ℕ) (i : ℕ) → 0 < per → i < length ns → All (λ n. n < 2 ^ bits) ns
    → get_or (packed (2 ^ bits) per ns) (i / per) 0 / 2 ^ (bits * (i % per)) % 2 ^ bits ≡ get_or ns i 0
at_place bits per ns i some l fit =
    let k : ℕ = i / per in
    let j : ℕ = i % per in
    let rest : List ℕ = drop (k * per) ns in
    let word = get_or-map-range_with_len (word_of (2 ^ bits) per ns) 0 (word_count per (length ns)) k k 0 (word_there per (length ns) i some l) (omega arith) in
    ap (λ w. w / 2 ^ (bits * j) % 2 ^ bits) word
    ∙ number_of-digit bits (take per rest) j (All-take (λ n. n < 2 ^ bits) per rest (All-drop (λ n. n < 2 ^ bits) (k * per) ns fit))
    ∙ get_or-take per rest j 0 (mod_below i per some)
    ∙ get_or-drop (k * per) ns j 0
    ∙ ap (λ m. get_or ns m 0) (div-add-mod' i per)

-- words of numbers of some bits
words_of-some : (b : ℕ) (ns : List ℕ) → words_of (suc b) ns ≡ packed (2 ^ suc b) (64 / suc b) ns
words_of-some b ns = rw (eqb-suc-zero b) refl

words_needed-some : (b n : ℕ) → words_needed (suc b) n ≡ word_count (64 / suc b) n
words_needed-some b n = rw (eqb-suc-zero b) refl

number_at-words_of : (bits : ℕ) (ns : List ℕ) (i : ℕ) → bits ≤ 12 → i < length ns → All (λ n. n < 2 ^ bits) ns → number_at bits (words_of bits ns) i ≡ get_or ns i 0
number_at-words_of zero ns i narrow l fit =
    let low : get_or ns i 0 < 1 = fit i 0 l in
    let none : 0 ≡ get_or ns i 0 = omega arith in
    mod-one _ ∙ none
number_at-words_of (suc b) ns i narrow l fit =
    ap (λ ws. number_at (suc b) ws i) (words_of-some b ns) ∙ at_place (suc b) (64 / suc b) ns i (omega (arith, le-div 1 64 (suc b) (omega arith) (omega arith))) l fit

-- the numbers of the words of numbers
pub unpacked-words_of : (bits : ℕ) (ns : List ℕ) → bits ≤ 12 → All (λ n. n < 2 ^ bits) ns → unpacked bits (length ns) (words_of bits ns) ≡ ns
unpacked-words_of bits ns narrow fit =
    let long = length-map-range_with_len (number_at bits (words_of bits ns)) 0 (length ns) in
    same_number_lists (unpacked bits (length ns) (words_of bits ns)) ns long
    (λ i l.
    let within : i < length ns = omega arith in
    get_or-map-range_with_len (number_at bits (words_of bits ns)) 0 (length ns) i i 0 within (omega arith) ∙ number_at-words_of bits ns i narrow within fit)

-- words that were packed are those of the numbers that they hold
pub packed_again : (bits : ℕ) (ns words : List ℕ) → bits ≤ 12 → All (λ n. n < 2 ^ bits) ns → words ≡ words_of bits ns → words ≡ words_of bits (unpacked bits (length ns) words)
packed_again bits ns words narrow fit e =
    e ∙ ap (words_of bits) (sym (ap (unpacked bits (length ns)) e ∙ unpacked-words_of bits ns narrow fit))

pub packed_numbers-words_of : (bits : ℕ) (ns words : List ℕ) → bits ≤ 12 → All (λ n. n < 2 ^ bits) ns → words ≡ words_of bits ns
    → packed_numbers bits (length ns) words ≡ record { bits = bits; numbers = ns }
packed_numbers-words_of bits ns words narrow fit e =
    λ i. record { bits = bits; numbers = (ap (unpacked bits (length ns)) e ∙ unpacked-words_of bits ns narrow fit) i }

-- how many words the words of so many numbers are
pub length-words_of : (bits : ℕ) (ns : List ℕ) → length (words_of bits ns) ≡ words_needed bits (length ns)
length-words_of zero ns = refl
length-words_of (suc b) ns =
    ap length (words_of-some b ns) ∙ length-map-range_with_len (word_of (2 ^ suc b) (64 / suc b) ns) 0 (word_count (64 / suc b) (length ns)) ∙ sym (words_needed-some b (length ns))

-- numbers of no bits
pub unpacked-none : (count : ℕ) (words : List ℕ) → unpacked 0 count words ≡ replicate count 0
unpacked-none count words =
    let long = length-map-range_with_len (number_at 0 words) 0 count in
    same_number_lists (unpacked 0 count words) (replicate count 0) (long ∙ sym (length-replicate count 0))
    (λ i l.
    let within : i < count = omega (arith, long) in
    get_or-map-range_with_len (number_at 0 words) 0 count i i 0 within (omega arith) ∙ mod-one _ ∙ sym (get_or-replicate count i 0 0 within))
