-- Reading numbers one after the other, as a loop does.
use Rattle.std.proofs.Common.{◌≡◌, ℕ, suc, ◌-◌, ◌+◌, ◌≤◌, ◌<◌, ℤ, List, [], ◌∷◌, ◌++◌, take, drop, refl, sym, ◌∙◌, append_assoc, arith}
use Rattle.std.proofs.lemmas.List.{append-nil}
use Rattle.std.specs.Int.{Width, byte_len, cast_signed}
use Rattle.byteorder.specs.Endian.{big_number}
use Rattle.nbt_tags.specs.Reading.{numbers_in}

-- one number more
pub numbers_in-more : (w : Width) (count i : ℕ) (front : List ℤ) (left : List ℕ) (z : ℤ) (total : List ℤ) → i < count
    → z ≡ cast_signed w (big_number (byte_len w) (take (byte_len w) left))
    → front ++ numbers_in w (count - i) left ≡ total
    → (front ++ z ∷ []) ++ numbers_in w (count - (i + 1)) (drop (byte_len w) left) ≡ total
unfolding numbers_in
numbers_in-more w count i front left z total lt is so_far =
    let k : count - i ≡ suc (count - (i + 1)) = omega arith in
    let one : front ++ numbers_in w (count - i) left ≡ front ++ (z ∷ numbers_in w (count - (i + 1)) (drop (byte_len w) left)) = rw (k, is) refl in
    append_assoc front (z ∷ []) (numbers_in w (count - (i + 1)) (drop (byte_len w) left)) ∙ sym one ∙ so_far

-- all numbers
pub numbers_in-all : (w : Width) (count i : ℕ) (front : List ℤ) (left : List ℕ) (total : List ℤ) → count ≤ i
    → front ++ numbers_in w (count - i) left ≡ total → front ≡ total
unfolding numbers_in
numbers_in-all w count i front left total le so_far =
    let k : count - i ≡ 0 = omega arith in
    let one : front ++ numbers_in w (count - i) left ≡ front = rw k (append-nil front) in
    sym one ∙ so_far
