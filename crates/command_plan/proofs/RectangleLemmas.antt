-- Runs of columns and rectangles by their tests.
use Rattle.std.proofs.Common.{◌≡◌, ℕ, ◌+◌, ◌-◌, ◌<◌, ◌≤◌, ◌⊎◌, ◌&&◌, arith}
use Rattle.std.specs.Prelude.{nat_le, nat_lt}
use Rattle.std.proofs.lemmas.Bool.Decides.{nat_tests}

pub common_test : (af at bf bt f e t c : ℕ) → af ≤ f → bf ≤ f → (f ≡ af) ⊎ (f ≡ bf) → e ≤ at → e ≤ bt → (e ≡ at) ⊎ (e ≡ bt) → f ≤ t → e ≤ t → (t ≡ f) ⊎ (t ≡ e)
    → (nat_le f c && nat_lt c t) ≡ ((nat_le af c && nat_lt c at) && (nat_le bf c && nat_lt c bt))
common_test af at bf bt f e t c a b one d g two h i three = grind (arith, nat_tests)

pub common_order : (af at bf bt f e t whole : ℕ) → (f ≡ af) ⊎ (f ≡ bf) → (e ≡ at) ⊎ (e ≡ bt) → f ≤ t → (t ≡ f) ⊎ (t ≡ e)
    → af ≤ at → at ≤ whole → bf ≤ bt → bt ≤ whole → t ≤ whole
common_order af at bf bt f e t whole one two order three a b c d = grind arith
