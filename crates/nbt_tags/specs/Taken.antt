-- The names that a set of them takes.
use Rattle.std.specs.Prelude.{ℕ, Bool, List}
use Rattle.std.specs.Borrow.{Bor}
use Rattle.std.specs.BTreeSet.{BTreeSet, contains_by}
use Rattle.std.specs.Cmp.Lexicographic.{slice_cmp}
use Rattle.std.specs.Ordering.{nat_cmp}

-- whether the set has the name
abbrev pub is_taken : BTreeSet (Bor (List ℕ)) → List ℕ → Bool
is_taken names name = contains_by (λ key. slice_cmp nat_cmp name key.now) names
