-- A section that is made of the distinct states of blocks and their numbers has the states of these blocks.
use Rattle.std.proofs.Common.{◌≡◌, ℕ, zero, suc, ◌<◌, ◌≤◌, ◌^◌, List, [], ◌∷◌, All, length, get_or, Some, slice_get, refl, sym, ap, ◌∙◌, arith, ◌+◌, ◌-◌, ◌*◌, ◌/◌}
use Rattle.std.specs.List.{AllZip}
use Rattle.std.proofs.lemmas.Nat.{le-div, div_below}
use Rattle.std.proofs.Math.Nat.{le-mul_of_pos_right}
use Rattle.std.proofs.Math.Dec.{eqb-suc-zero}
use Rattle.std.proofs.lemmas.List.{length-map}
use Rattle.std.proofs.lemmas.List.Elements.{All-nil, All-cons}
use Rattle.std.proofs.lemmas.Bool.Decides.{nat_tests}
use Rattle.edit_terms.specs.StateText.{State, air}
use Rattle.edit_terms.specs.Same.{same_state, state_decides, state_equivalence}
use Rattle.block_palette.specs.Numbering.{IsNumberOf}
use Rattle.block_palette.proofs.Numbering.{slice_get-number, length-distinct}
use Rattle.block_palette.proofs.FirstAppearance.{IsNumbering-distinct}
use Rattle.chunk_sections.specs.Packed.{PackedNumbers, least_width, words_needed}
use Rattle.chunk_sections.proofs.Words.{length-words_of}
use Rattle.chunk_sections.specs.Section.{kind_of, states_of, section_kinds, section_numbers, section_words, IsSection}

slice_get-below : (ds : List State) (n : ℕ) (s : State) → slice_get ds n ≡ Some s → n < length ds
slice_get-below [] n s e = absurd cc
slice_get-below (d ∷ ds) zero s e = omega arith
slice_get-below (d ∷ ds) (suc n) s e = let rest = slice_get-below ds n s e in omega arith

pub get_or-slice_get : (ds : List State) (n : ℕ) (s d : State) → slice_get ds n ≡ Some s → get_or ds n d ≡ s
get_or-slice_get [] n s d e = absurd cc
get_or-slice_get (x ∷ ds) zero s d e = cc
get_or-slice_get (x ∷ ds) (suc n) s d e = get_or-slice_get ds n s d e

-- the number of a state is a place of it
at_number : (ds : List State) (s : State) (n : ℕ) → IsNumberOf same_state ds s n → slice_get ds n ≡ Some s
at_number ds s n h = slice_get-number same_state (λ s t. (state_decides s t).0) ds s n h

read_back : (ds ys : List State) (ns : List ℕ) → AllZip (IsNumberOf same_state ds) ys ns → states_of ds ns ≡ ys
read_back ds [] [] h = refl
read_back ds [] (n ∷ ns) h = absurd h
read_back ds (y ∷ ys) [] h = absurd h
read_back ds (y ∷ ys) (n ∷ ns) h = λ i. get_or-slice_get ds n y air (at_number ds y n h.0) i ∷ read_back ds ys ns h.1 i

all_below : (ds ys : List State) (ns : List ℕ) → AllZip (IsNumberOf same_state ds) ys ns → All (λ n. n < length ds) ns
all_below ds [] [] h = All-nil (λ n. n < length ds)
all_below ds [] (n ∷ ns) h = absurd h
all_below ds (y ∷ ys) [] h = absurd h
all_below ds (y ∷ ys) (n ∷ ns) h = All-cons (λ n. n < length ds) n ns (slice_get-below ds n y (at_number ds y n h.0)) (all_below ds ys ns h.1)

-- the states of blocks, back from their numbers
pub states_of-numbers : (xs : List State) → states_of (section_kinds xs) (section_numbers xs) ≡ xs
states_of-numbers xs = read_back (section_kinds xs) xs (section_numbers xs) (IsNumbering-distinct state_equivalence xs).named

-- there is a number for each block
pub length-section_numbers : (xs : List State) → length (section_numbers xs) ≡ length xs
length-section_numbers xs = sym (length-map (section_numbers xs) (kind_of (section_kinds xs))) ∙ ap length (states_of-numbers xs)

-- each number is one of a kind
pub numbers_below : (xs : List State) → All (λ n. n < length (section_kinds xs)) (section_numbers xs)
numbers_below xs = all_below (section_kinds xs) xs (section_numbers xs) (IsNumbering-distinct state_equivalence xs).named

-- the least width is wide enough
pub least_width-room : (count : ℕ) → count ≤ 4096 → count ≤ 2 ^ least_width count
least_width-room count h = grind (arith, nat_tests)

-- each number is of the width of its section
pub numbers_fit : (xs : List State) (bits : ℕ) → length xs ≤ 4096 → bits ≡ least_width (length (section_kinds xs)) → All (λ n. n < 2 ^ bits) (section_numbers xs)
numbers_fit xs bits few e k d l =
    let few_kinds = length-distinct same_state xs in
    let room : length (section_kinds xs) ≤ 2 ^ bits = rw e (least_width-room (length (section_kinds xs)) (omega arith)) in
    let low = numbers_below xs k d l in
    omega arith

-- Blocks xs, their distinct states, and their numbers.
module _ (xs palette : List State) (cells : PackedNumbers) (kinds_are : palette ≡ section_kinds xs) (numbers_are : cells.numbers ≡ section_numbers xs) where
  pub states_of-made : states_of palette cells.numbers ≡ xs
  states_of-made = ap (λ ds. states_of ds cells.numbers) kinds_are ∙ ap (states_of (section_kinds xs)) numbers_are ∙ states_of-numbers xs

  pub IsSection-made : cells.bits ≡ least_width (length palette) → length cells.numbers ≤ 4096 → IsSection palette cells
  IsSection-made narrow few = record {
    few = few;
    kinds = kinds_are ∙ ap section_kinds (sym states_of-made);
    numbered = numbers_are ∙ ap section_numbers (sym states_of-made);
    narrow = narrow;
  }

-- the number of a block of a section is that of a kind
pub number_below : (palette : List State) (cells : PackedNumbers) → IsSection palette cells → (i : ℕ) → i < length cells.numbers → get_or cells.numbers i 0 < length palette
number_below palette cells h i l =
    let xs = states_of palette cells.numbers in
    let long = ap length h.numbered in
    let low = numbers_below xs i 0 (omega arith) in
    let same = ap (λ ns. get_or ns i 0) h.numbered in
    let many = ap length h.kinds in
    omega arith

-- a section has no more words than blocks
words_needed-le : (bits n : ℕ) → bits ≤ 64 → words_needed bits n ≤ n
words_needed-le zero n narrow = omega arith
words_needed-le (suc b) n narrow =
    let per : ℕ = 64 / suc b in
    let some : 1 ≤ 64 / suc b = le-div 1 64 (suc b) (omega arith) (omega arith) in
    let wide : n ≤ n * (64 / suc b) = le-mul_of_pos_right n some in
    let under : n + 64 / suc b - 1 < (n + 1) * (64 / suc b) = omega arith in
    let count : (n + 64 / suc b - 1) / (64 / suc b) < n + 1 = div_below (n + 64 / suc b - 1) (64 / suc b) (n + 1) some under in
    rw (eqb-suc-zero b) (omega arith)

least_width-le : (count : ℕ) → least_width count ≤ 12
least_width-le count = grind (arith, nat_tests)

pub section_words-few : (states : List State) → length states ≤ 4096 → length (section_words states) ≤ 4096
section_words-few states few =
    let bits : ℕ = least_width (length (section_kinds states)) in
    let narrow = least_width-le (length (section_kinds states)) in
    let long = length-words_of (least_width (length (section_kinds states))) (section_numbers states) in
    let numbers = length-section_numbers states in
    let needed = words_needed-le (least_width (length (section_kinds states))) (length (section_numbers states)) (omega arith) in
    omega arith
