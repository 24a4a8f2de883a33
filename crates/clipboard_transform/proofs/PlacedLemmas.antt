-- The ends of a box that is put to a place.
use Rattle.std.proofs.Common.{◌≡◌, ℕ, ℤ, pos, ◌+ℤ◌, arith}
use Rattle.std.proofs.lemmas.Int.{ints}
use Rattle.clipboard_transform.specs.Bounds.{last_from}

-- the number behind the last of the size numbers from low on
pub placed_end : (x low v : ℤ) (size : ℕ) → v ≡ last_from low size → (x +ℤ v +ℤ pos 1) ≡ (x +ℤ low) +ℤ pos size
placed_end x low v size is = omega (arith, ints, is)
