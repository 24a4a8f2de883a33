-- What contracts see of the reader's place among the pieces of a text.
use Rattle.std.specs.Prelude.{ℕ, ◌+◌, List, [], length, Option, Some, None}
use Rattle.std.specs.Borrow.{Bor}
use Rattle.term_text.specs.declared.pieces.Piece as code
use Rattle.term_text.specs.Pieces.{Piece, pieces_at}

-- a piece, without where its bytes lie in memory
abbrev pub piece_now : code.Piece → Piece
piece_now p = record { at = p.at; bytes = p.bytes.now }

-- the pieces of what is left of a text, which goes on at this place
abbrev pub pieces_left : ℕ → ℕ → Option (Bor (List ℕ)) → List Piece
pieces_left separator at None = []
pieces_left separator at (Some text) = pieces_at separator at text.now

-- the bytes that are left, and one for the end
abbrev pub room_left : Option (Bor (List ℕ)) → ℕ
room_left None = 0
room_left (Some text) = length text.now + 1
