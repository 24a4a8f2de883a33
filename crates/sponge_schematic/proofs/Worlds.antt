-- A grid's world in the words of its file: the states of its blocks are the grid's kinds by number.
use Rattle.std.proofs.Common.{◌≡◌, ℕ, ◌<◌, ◌≤◌, Bool, true, List, [], ◌∷◌, length, map, take, All, refl, sym, ap, ◌∙◌, arith}
use Rattle.std.specs.List.{range_with_len, list_all}
use Rattle.std.proofs.lemmas.Bool.{eqb-true, ltb-true}
use Rattle.std.proofs.lemmas.List.{length-map, get_or-map, take_all}
use Rattle.std.proofs.lemmas.List.Elements.{All-cons}
use Rattle.std.proofs.lemmas.List.FromFn.{fill_by_all}
use Rattle.std.specs.Prelude.{nat_lt}
use Rattle.edit_terms.specs.Area.{volume}
use Rattle.edit_terms.specs.StateText.{State, air}
use Rattle.edit_terms.specs.World.{BlockContent}
use Rattle.edit_terms.specs.Grid.{GridParts, world_of, is_numbered, state_of_cell, content_of_cell}
use Rattle.edit_terms.proofs.AreaLemmas.{and_both}
use Rattle.sponge_schematic.specs.File.{states_of}
use Rattle.sponge_schematic.specs.Numbers.{kind_of}

map-map : {A B C : Type 0} (f : A → B) (h : B → C) (xs : List A) → map h (map f xs) ≡ map (λ x. h (f x)) xs
map-map f h [] = refl
map-map f h (x ∷ xs) = ap (λ ys. h (f x) ∷ ys) (map-map f h xs)

all_true : {A : Type 0} (p : A → Bool) (xs : List A) → list_all p xs ≡ true → All (λ x. p x ≡ true) xs
all_true p [] h = λ k d lt. absurd (omega arith)
all_true p (x ∷ xs) h = let parts = and_both (p x) (list_all p xs) h in All-cons (λ y. p y ≡ true) x xs parts.0 (all_true p xs parts.1)

-- what the numbering of a grid says
pub record IsNumbered (g : GridParts) : Type 0 where
  pub long : length g.cells ≡ volume g.area
  pub within : All (λ n. n < length g.kinds) g.cells

pub numbering_of : (g : GridParts) → is_numbered g.area g.kinds g.cells ≡ true → IsNumbered g
numbering_of g h =
    let parts = and_both _ (list_all (λ n. nat_lt n (length g.kinds)) g.cells) h in
    let tests = all_true (λ n. nat_lt n (length g.kinds)) g.cells parts.1 in
    record { long = eqb-true _ _ parts.0; within = λ k d lt. ltb-true _ _ (tests k d lt) }

pub states_of_grid : (g : GridParts) → length g.cells ≡ volume g.area → states_of (world_of g) ≡ map (kind_of g.kinds) g.cells
states_of_grid g long =
    map-map (content_of_cell g) (λ (c : BlockContent). c.state) (range_with_len 0 (volume g.area))
    ∙ sym (fill_by_all (state_of_cell g) (map (kind_of g.kinds) g.cells) (volume g.area) air (length-map g.cells (kind_of g.kinds) ∙ long)
    (λ k lt. get_or-map (kind_of g.kinds) g.cells k 0 air (omega arith)))

-- the states of all blocks, as a loop over the numbers meets them
pub all_states : (g : GridParts) (kinds : List State) (cells : List ℕ) (i : ℕ) → is_numbered g.area g.kinds g.cells ≡ true → kinds ≡ g.kinds → cells ≡ g.cells → length cells ≤ i → take i (map (kind_of kinds) cells) ≡ states_of (world_of g)
all_states g kinds cells i numbered these those le =
    take_all i (map (kind_of kinds) cells) (omega (arith, length-map cells (kind_of kinds)))
    ∙ ap (λ (ks : List State). map (kind_of ks) cells) these
    ∙ ap (map (kind_of g.kinds)) those
    ∙ sym (states_of_grid g (numbering_of g numbered).long)
