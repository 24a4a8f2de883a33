-- Numbering by first appearance: what a list's distinct entries are, and which number each item has.
-- Entries are told apart by a test of equality, `same`.
use Rattle.std.specs.Prelude.{◌≡◌, ℕ, ◌-◌, ◌^◌, ◌≤◌, Bool, true, not, List, [], ◌∷◌, ◌++◌, map, length, Some, slice_get, if◌then◌else◌}
use Rattle.std.specs.List.{list_any, filter, position_or_len, IsDistinct}

module _ {A : Type 0} (same : A → A → Bool) where
  -- The number of x in a list of entries: the place of the entry that is the same as x, or, where there is none, the
  -- place behind the last, at which x would go.
  abbrev pub number_in : List A → A → ℕ
  number_in entries x = position_or_len (same x) entries

  -- The entries once x has its number: as they were where one is the same as x, and else with x last.
  abbrev pub with_entry : List A → A → List A
  with_entry entries x = if list_any (same x) entries then entries else entries ++ x ∷ []

  -- The distinct entries of a list, in the order of their first appearance: its items without those that are the same
  -- as an earlier one.
  unfoldable pub distinct : List A → List A
  distinct [] = []
  distinct (x ∷ xs) = x ∷ filter (λ y. not (same x y)) (distinct xs)

  -- For each item of a list its number: its place among the list's distinct entries.
  unfoldable pub numbers : List A → List ℕ
  numbers xs = map (number_in (distinct xs)) xs

  -- The entry of number n is the same as x.
  pub record IsNumberOf (entries : List A) (x : A) (n : ℕ) : Type 0 where
    pub entry : A
    pub there : slice_get entries n ≡ Some entry
    pub alike : same x entry ≡ true

  -- What holds of a palette's entries: they are distinct, and there are at most 2^32 - 1.
  pub record IsPalette (entries : List A) : Type 0 where
    pub unique : IsDistinct same entries
    pub within : length entries ≤ 2 ^ 32 - 1
