-- How much room is taken for what a count announces.
use Rattle.std.specs.Prelude.{ℕ, ℤ, pos, negsuc, min}

-- none for a negative count, else the smaller of the count and the number of bytes that are left
abbrev pub room_for : ℤ → ℕ → ℕ
room_for (pos count) left = min count left
room_for (negsuc _) left = 0
