-- Rotations by the number that a word is written for.
use Rattle.std.proofs.Common.{◌≡◌, ℕ, ◌%◌, true, false, cond, List, [], ◌∷◌, map, Some, None, refl, ap, ◌∙◌}
use Rattle.std.specs.Prelude.{Option, bytes_eq}
use Rattle.std.specs.Option.{option_map_or}
use Rattle.std.specs.List.{find, range_with_len}
use Rattle.edit_terms.specs.Transform.{by_words, decimal_of, rotations}

-- words that are listed by numbers
by_words-map : (left right : ℕ → List ℕ) (numbers : List ℕ) (word : List ℕ) → by_words (map (λ r. (left r, right r)) numbers) word ≡ option_map_or right (find (λ r. bytes_eq (left r) word) numbers) word
by_words-map left right [] word = refl
by_words-map left right (r ∷ numbers) word =
    elim (bytes_eq (left r) word) as (λ b. cond b (right r) (by_words (map (λ s. (left s, right s)) numbers) word) ≡ option_map_or right (cond b (Some r) (find (λ s. bytes_eq (left s) word) numbers)) word) [
      | true ↦ refl
      | false ↦ by_words-map left right numbers word
    ]

pub turned_number : (become : ℕ → ℕ) (word : List ℕ) (number : ℕ) → find (λ r. bytes_eq (decimal_of r) word) (range_with_len 0 16) ≡ Some number → by_words (rotations become) word ≡ decimal_of (become number % 16)
turned_number become word number found =
    by_words-map decimal_of (λ r. decimal_of (become r % 16)) (range_with_len 0 16) word ∙ ap (λ (o : Option ℕ). option_map_or (λ r. decimal_of (become r % 16)) o word) found

pub no_number : (become : ℕ → ℕ) (word : List ℕ) → find (λ r. bytes_eq (decimal_of r) word) (range_with_len 0 16) ≡ None → by_words (rotations become) word ≡ word
no_number become word none =
    by_words-map decimal_of (λ r. decimal_of (become r % 16)) (range_with_len 0 16) word ∙ ap (λ (o : Option ℕ). option_map_or (λ r. decimal_of (become r % 16)) o word) none
