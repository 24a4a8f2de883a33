-- How far a weighted choice has come.
use Rattle.std.specs.Prelude.{◌≡◌, ℕ, ◌*◌, ◌≤◌, List, drop, take, sum_by}
use Rattle.edit_terms.specs.declared.pattern.Entry.{Entry}
use Rattle.edit_terms.specs.Pattern.{chosen_from}

-- the first count of the entries, whose weights have this sum, aren't chosen
pub record IsUnchosen (word total : ℕ) (entries : List Entry) (count sum : ℕ) : Type 0 where
  pub same : chosen_from word total 0 entries ≡ chosen_from word total sum (drop count entries)
  pub small : sum ≤ count * 4294967295

-- the first count of the entries have this sum of weights
pub record IsSumSoFar (entries : List Entry) (count total : ℕ) : Type 0 where
  pub value : total ≡ sum_by (λ (e : Entry). e.weight) (take count entries)
  pub small : total ≤ count * 4294967295
