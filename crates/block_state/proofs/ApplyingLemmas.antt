-- Properties that are replaced or added are of the form, unless they are too many.
use Rattle.std.proofs.Common.{◌≡◌, ℕ, Bool, true, false, ◌&&◌, List, length, refl, ◌∙◌}
use Rattle.std.specs.Prelude.{nat_le}
use Rattle.std.specs.List.{list_all}
use Rattle.edit_terms.specs.StateText.{is_property, is_rising, is_properties, with_properties}
use Rattle.edit_terms.proofs.PropertyLemmas.{formed, all_with, rising_with}

pub is_properties-with : (old ps : List (List ℕ × List ℕ)) → is_properties old ≡ true → is_properties ps ≡ true → is_properties (with_properties old ps) ≡ nat_le (length (with_properties old ps)) 16
is_properties-with old ps g h =
    let before = formed old g in
    let added = formed ps h in
    let all = with_properties old ps in
    let good : list_all is_property all ≡ true = all_with is_property old ps before.all added.all in
    let up : is_rising all ≡ true = rising_with old ps before.rising in
    (λ i. (nat_le (length all) 16 && good i) && up i) ∙ alone (nat_le (length all) 16)
  where
    alone : (b : Bool) → ((b && true) && true) ≡ b
    alone true = refl
    alone false = refl
