-- The pieces of a text between the separators that stand outside brackets, and where each begins.
use Rattle.std.specs.Prelude.{ℕ, ◌+◌, Bool, false, ◌&&◌, ◌==◌, not, if◌then◌else◌, List, [], ◌∷◌, length, Option, Some, None, option_map}
use Rattle.std.specs.List.{onto_first}
use Rattle.edit_terms.specs.StateText.{opening, closing}

-- bytes and their place, a number of bytes from the start of the whole text
pub record Piece : Type 0 where
  pub at : ℕ
  pub bytes : List ℕ

-- What lies behind a byte is inside brackets: from a [ to the next ].
abbrev pub is_inside_after : Bool → ℕ → Bool
is_inside_after inside b = if inside then not (b == closing) else b == opening

-- the byte is a separator outside brackets
abbrev pub ends_piece : Bool → ℕ → ℕ → Bool
ends_piece inside separator b = not inside && b == separator

-- the pieces of a text that begins inside brackets or outside; there is at least one, and each may be empty
abbrev pub pieces_from : Bool → ℕ → List ℕ → List (List ℕ)
pieces_from inside separator [] = [] ∷ []
pieces_from inside separator (b ∷ bytes) =
    if ends_piece inside separator b then [] ∷ pieces_from false separator bytes
    else onto_first b (pieces_from (is_inside_after inside b) separator bytes)

-- pieces, the first of which begins at this place, with one separator between each two
abbrev pub placed : ℕ → List (List ℕ) → List Piece
placed at [] = []
placed at (bytes ∷ more) = record { at = at; bytes = bytes } ∷ placed (at + length bytes + 1) more

-- the pieces of a text that begins at this place
abbrev pub pieces_at : ℕ → ℕ → List ℕ → List Piece
pieces_at separator at text = placed at (pieces_from false separator text)

-- the place of the first separator outside brackets
abbrev pub place_from : Bool → ℕ → List ℕ → Option ℕ
place_from inside separator [] = None
place_from inside separator (b ∷ bytes) =
    if ends_piece inside separator b then Some 0
    else option_map (λ n. n + 1) (place_from (is_inside_after inside b) separator bytes)
