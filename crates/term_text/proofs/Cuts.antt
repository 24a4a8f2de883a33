-- The pieces of a text by the first separator outside brackets.
use Rattle.std.proofs.Common.{◌≡◌, ℕ, ◌+◌, ◌<◌, ◌≤◌, true, false, cond, List, [], ◌∷◌, length, take, drop, get_or, Option, Some, None, option_map, refl, ap, ◌∙◌, add-one, drop-cons, arith}
use Rattle.std.specs.Prelude.{Bool}
use Rattle.std.specs.List.{onto_first}
use Rattle.std.proofs.Math.ListN.{drop_of_length-le}
use Rattle.term_text.specs.Pieces.{is_inside_after, ends_piece, pieces_from, place_from}

-- the pieces of a text whose first separator is at this place
abbrev by_place : List ℕ → ℕ → Option ℕ → List (List ℕ)
by_place text c None = text ∷ []
by_place text c (Some at) = take at text ∷ pieces_from false c (drop (at + 1) text)

by_place_more : (b c : ℕ) (bytes : List ℕ) (p : Option ℕ) → onto_first b (by_place bytes c p) ≡ by_place (b ∷ bytes) c (option_map (λ n. n + 1) p)
by_place_more b c bytes None = refl
by_place_more b c bytes (Some k) = simp add-one

-- a text is cut at its first separator
pieces_by_place : (inside : Bool) (c : ℕ) (text : List ℕ) → pieces_from inside c text ≡ by_place text c (place_from inside c text)
pieces_by_place inside c [] = refl
pieces_by_place inside c (b ∷ bytes) =
    elim (ends_piece inside c b) as (λ t. cond t ([] ∷ pieces_from false c bytes) (onto_first b (pieces_from (is_inside_after inside b) c bytes)) ≡ by_place (b ∷ bytes) c (cond t (Some 0) (option_map (λ n. n + 1) (place_from (is_inside_after inside b) c bytes)))) [
      | true ↦ refl
      | false ↦ ap (onto_first b) (pieces_by_place (is_inside_after inside b) c bytes) ∙ by_place_more b c bytes (place_from (is_inside_after inside b) c bytes)
    ]

-- a text without a separator is its one piece
pub cut_whole : (c : ℕ) (text : List ℕ) → place_from false c text ≡ None → pieces_from false c text ≡ text ∷ []
cut_whole c text none = pieces_by_place false c text ∙ ap (by_place text c) none

-- a text is its first piece and the pieces behind the separator
pub cut_first : (c end : ℕ) (text : List ℕ) → place_from false c text ≡ Some end → pieces_from false c text ≡ take end text ∷ pieces_from false c (drop (end + 1) text)
cut_first c end text found = pieces_by_place false c text ∙ ap (by_place text c) found

-- The first place, byte by byte

after_more : (p : Option ℕ) (i : ℕ) → option_map (λ n. n + i) (option_map (λ n. n + 1) p) ≡ option_map (λ n. n + (i + 1)) p
after_more None i = refl
after_more (Some k) i = ap Some (omega arith)

-- no separator: the search goes on
pub place_more : (inside : Bool) (c : ℕ) (text : List ℕ) (i : ℕ) → i < length text → ends_piece inside c (get_or text i 0) ≡ false → option_map (λ n. n + i) (place_from inside c (drop i text)) ≡ option_map (λ n. n + (i + 1)) (place_from (is_inside_after inside (get_or text i 0)) c (drop (i + 1) text))
place_more inside c text i within other =
    let here : drop i text ≡ get_or text i 0 ∷ drop (i + 1) text = rw (add-one, drop-cons text i 0) in
    let next = place_from (is_inside_after inside (get_or text i 0)) c (drop (i + 1) text) in
    ap (λ t. option_map (λ n. n + i) (place_from inside c t)) here
    ∙ ap (λ t. option_map (λ n. n + i) (cond t (Some 0) (option_map (λ n. n + 1) next))) other
    ∙ after_more next i

-- a separator: it is the first
pub place_here : (inside : Bool) (c : ℕ) (text : List ℕ) (i : ℕ) → i < length text → ends_piece inside c (get_or text i 0) ≡ true → option_map (λ n. n + i) (place_from inside c (drop i text)) ≡ Some i
place_here inside c text i within is =
    let here : drop i text ≡ get_or text i 0 ∷ drop (i + 1) text = rw (add-one, drop-cons text i 0) in
    let next = place_from (is_inside_after inside (get_or text i 0)) c (drop (i + 1) text) in
    ap (λ t. option_map (λ n. n + i) (place_from inside c t)) here
    ∙ ap (λ t. option_map (λ n. n + i) (cond t (Some 0) (option_map (λ n. n + 1) next))) is
    ∙ ap Some (omega arith)

-- nothing is left
pub place_none : (inside : Bool) (c : ℕ) (text : List ℕ) (i : ℕ) → length text ≤ i → option_map (λ n. n + i) (place_from inside c (drop i text)) ≡ None
place_none inside c text i past = rw (drop_of_length-le text past)

-- the search begins with nothing read
pub place_start : (c : ℕ) (text : List ℕ) → place_from false c text ≡ option_map (λ n. n + 0) (place_from false c text)
place_start c text = elim (place_from false c text) as (λ p. p ≡ option_map (λ n. n + 0) p) [
  | None ↦ refl
  | Some k ↦ ap Some (omega arith)
]
