-- Natural numbers in decimal digits.
use Rattle.std.specs.Prelude.{ℕ, Bool, ◌&&◌, nat_le, nat_lt, if◌then◌else◌, List, length, Option, Some, None}
use Rattle.std.specs.Char.{is_ascii_digit}
use Rattle.std.specs.List.{list_all}
use Rattle.std.specs.Str.Parse.{digits_value}
use Rattle.run_terms.specs.Limits.{is_one_of}

-- 1 to so many digits; the first ones may be zeros
abbrev pub is_digits : ℕ → List ℕ → Bool
is_digits most bytes = nat_lt 0 (length bytes) && nat_le (length bytes) most && list_all is_ascii_digit bytes

-- the number that so many digits stand for in base ten
abbrev pub natural_of : ℕ → List ℕ → Option ℕ
natural_of most bytes = if is_digits most bytes then Some (digits_value 10 bytes) else None

-- the number that so many digits stand for, if it is one from the least to the greatest
abbrev pub natural_between : ℕ → ℕ → ℕ → List ℕ → Option ℕ
natural_between most least greatest bytes =
    if is_digits most bytes && is_one_of least greatest (digits_value 10 bytes) then Some (digits_value 10 bytes) else None
