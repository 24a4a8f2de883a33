-- The value of digits, as far as they are read.
use Rattle.std.proofs.Common.{◌≡◌, ℕ, ◌+◌, ◌-◌, ◌*◌, ◌^◌, ◌<◌, ◌≤◌, List, take, length, get_or, arith, rules}
use Rattle.std.specs.Prelude.{true}
use Rattle.std.specs.Char.{is_ascii_digit}
use Rattle.std.specs.List.{list_all}
use Rattle.std.specs.Str.Parse.{digits_value}
use Rattle.std.specs.Int.{IsInRange}
use Rattle.std.proofs.lemmas.Str.{digit_value_digit}
use Rattle.std.proofs.lemmas.Bool.Decides.{nat_tests}
use Rattle.std.proofs.lemmas.Int.Digits.{digits_value_more}
use Rattle.std.proofs.lemmas.Str.Parse.{IsNumeralModel, numerals_by_value, IsDigitsTest, digits_value_short, digits_value-take-le, digit_at}
use Rattle.term_text.specs.Digits.{is_digits}

-- the test of digits is the one that std's words are about
is_digits_test : IsDigitsTest (λ ds. list_all is_ascii_digit ds ≡ true)
is_digits_test = search rules

numerals : IsNumeralModel (λ ds. list_all is_ascii_digit ds ≡ true) (digits_value 10)
numerals = numerals_by_value (λ ds. list_all is_ascii_digit ds ≡ true) is_digits_test

-- what the test says
pub record AreDigits (most : ℕ) (ds : List ℕ) : Type 0 where
  pub short : length ds ≤ most
  pub each : list_all is_ascii_digit ds ≡ true

pub are_digits : (most : ℕ) (ds : List ℕ) → is_digits most ds ≡ true → AreDigits most ds
are_digits most ds h = record { short = grind (arith, nat_tests); each = grind (arith, nat_tests) }

-- so many digits stand for a number of at most so many digits
pub value_short : (most : ℕ) (ds : List ℕ) → is_digits most ds ≡ true → digits_value 10 ds < 10 ^ most
value_short most ds h = digits_value_short numerals ds most (are_digits most ds h).each (are_digits most ds h).short

-- and so do the first ones of them
pub value_below : (ds : List ℕ) (i : ℕ) → is_digits 20 ds ≡ true → digits_value 10 (take i ds) < 10 ^ 20
value_below ds i h = omega (arith, digits_value-take-le 10 ds i (omega arith), value_short 20 ds h)

-- each byte is a digit
pub digit_between : (ds : List ℕ) (i : ℕ) → is_digits 20 ds ≡ true → i < length ds → IsInRange 48 57 (get_or ds i 0)
digit_between ds i h inside = digit_at ds i (numerals.to ds (are_digits 20 ds h).each) inside

-- one more digit
pub value_more : (ds : List ℕ) (i : ℕ) → is_digits 20 ds ≡ true → i < length ds → digits_value 10 (take (i + 1) ds) ≡ digits_value 10 (take i ds) * 10 + (get_or ds i 0 - 48)
value_more ds i h inside =
    let more = digits_value_more 10 ds i inside in
    let digit = digit_value_digit (get_or ds i 0) (digit_between ds i h inside) in
    omega (arith, more, digit)
