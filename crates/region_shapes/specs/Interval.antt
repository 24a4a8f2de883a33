-- Intervals of one coordinate: the numbers from the one end up to but without the other, none where that isn't greater.
use Rattle.std.specs.Prelude.{ℕ, ◌+◌, ◌*◌, ◌&&◌, Bool, nat_abs, ℤ, pos, negsuc, ◌+ℤ◌, ◌-ℤ◌, ◌≤ℤ◌, int_le, int_lt}
use Rattle.std.specs.Int.{int_min, int_max}
use Rattle.edit_terms.specs.Frame.{count_between, count_up_to}
use Rattle.region_shapes.specs.declared.interval.Interval.{Interval}

abbrev pub is_among : Interval → ℤ → Bool
is_among i v = int_le i.from v && int_lt v i.to

abbrev pub is_empty : Interval → Bool
is_empty i = int_le i.to i.from

-- how many numbers an interval has
abbrev pub size : Interval → ℕ
size i = count_up_to (i.to -ℤ i.from)

-- an interval without numbers
abbrev pub nowhere : Interval
nowhere = record { from = pos 0; to = pos 0 }

-- the size numbers from low on
abbrev pub numbers_from : ℤ → ℕ → Interval
numbers_from low size = record { from = low; to = low +ℤ pos size }

-- two numbers and those between them
abbrev pub between : ℤ → ℤ → Interval
between a b = numbers_from (int_min a b) (count_between a b)

-- the numbers at most so far from this one
abbrev pub around : ℤ → ℕ → Interval
around middle reach = numbers_from (middle -ℤ pos reach) (2 * reach + 1)

-- the numbers of both
abbrev pub common : Interval → Interval → Interval
common i j = record { from = int_max i.from j.from; to = int_min i.to j.to }

-- the numbers so far above
abbrev pub shifted : ℤ → Interval → Interval
shifted by i = record { from = i.from +ℤ by; to = i.to +ℤ by }

-- without its first and its last number
abbrev pub shrunk : Interval → Interval
shrunk i = record { from = i.from +ℤ pos 1; to = i.to -ℤ pos 1 }

-- the numbers below a part of it that isn't empty, and those above
abbrev pub below : Interval → Interval → Interval
below part i = record { from = i.from; to = int_min i.to part.from }

abbrev pub above : Interval → Interval → Interval
above part i = record { from = int_max i.from part.to; to = i.to }

-- the square of the distance of two numbers
abbrev pub squared : ℤ → ℤ → ℕ
squared a b = nat_abs (a -ℤ b) * nat_abs (a -ℤ b)

-- both ends are at most 2 ^ 36 from 0
pub record IsNear (i : Interval) : Type 0 where
  pub from_low : negsuc 68719476735 ≤ℤ i.from
  pub from_high : i.from ≤ℤ pos 68719476736
  pub to_low : negsuc 68719476735 ≤ℤ i.to
  pub to_high : i.to ≤ℤ pos 68719476736
