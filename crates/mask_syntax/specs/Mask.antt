-- Which mask a text stands for, or its first fault (masks of WorldEdit 7, with limits of this project).
use Rattle.std.specs.Prelude.{ℕ, ◌+◌, nat_lt, Bool, not, ◌==◌, if◌then◌else◌, List, [], ◌∷◌, length, map, filter, Result, Ok, Err}
use Rattle.edit_terms.specs.declared.mask.Term.{Term}
use Rattle.edit_terms.specs.declared.mask.Mask.{Mask}
use Rattle.block_state.specs.declared.term_fault.TermFault.{TermFault}
use Rattle.block_state.specs.declared.term_fault.TermFault.TheVariants.{Empty, TooManyNoise}
use Rattle.term_text.specs.Pieces.{Piece, pieces_at}
use Rattle.term_text.specs.Verdict.{all_or_first}
use Rattle.mask_syntax.specs.Term.{leaf_piece, term_reading, noise_of}

-- the byte between two terms: a space
abbrev pub space : ℕ
space = 32

abbrev pub has_bytes : Piece → Bool
has_bytes p = not (length p.bytes == 0)

-- the terms' texts: the pieces that aren't empty
abbrev pub term_pieces : List ℕ → List Piece
term_pieces text = filter has_bytes (pieces_at space 0 text)

-- a term's text, and how many noise leaves stand before it
pub record Counted : Type 0 where
  pub before : ℕ
  pub piece : Piece

-- the pieces, behind this many noise leaves
abbrev pub counted : ℕ → List Piece → List Counted
counted before [] = []
counted before (p ∷ more) = record { before = before; piece = p } ∷ counted (before + noise_of p) more

-- a term that may stand there: it is no fifth noise leaf
abbrev pub allowed : Counted → Term → Result Term TermFault
allowed c term = if nat_lt 4 (c.before + noise_of c.piece) then Err (TooManyNoise (leaf_piece c.piece).at) else Ok term

-- the verdict on one term
abbrev pub judged : Counted → Result Term TermFault
judged c = elim (term_reading c.piece) [
  | Ok term ↦ allowed c term
  | Err fault ↦ Err fault
]

-- the terms of these pieces, each judged alone, or the first fault from the left
abbrev pub terms_reading : List Piece → Result (List Term) TermFault
terms_reading pieces = all_or_first (map judged (counted 0 pieces))

-- the mask of these terms; there must be one
abbrev pub mask_of_terms : Result (List Term) TermFault → Result Mask TermFault
mask_of_terms (Ok []) = Err (Empty 0)
mask_of_terms (Ok (term ∷ more)) = Ok (record { terms = term ∷ more })
mask_of_terms (Err fault) = Err fault

-- The mask that a text stands for, terms with spaces between, or its first fault.
abbrev pub mask_of_text : List ℕ → Result Mask TermFault
mask_of_text text = mask_of_terms (terms_reading (term_pieces text))
