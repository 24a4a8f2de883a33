-- Which term of a mask a piece of its text stands for, or its first fault.
use Rattle.std.specs.Prelude.{ℕ, ◌+◌, Bool, false, not, ◌||◌, ◌==◌, if◌then◌else◌, List, [], ◌∷◌, length, take, drop, map, position, Result}
use Rattle.std.specs.Option.{unwrap_or}
use Rattle.edit_terms.specs.declared.mask.Sign.{Sign}
use Rattle.edit_terms.specs.declared.mask.Sign.TheVariants.{Not, Below, Above}
use Rattle.edit_terms.specs.declared.mask.Term.{Term}
use Rattle.block_state.specs.declared.term_fault.TermFault.{TermFault}
use Rattle.term_text.specs.Pieces.{Piece}
use Rattle.term_text.specs.Verdict.{verdict_map}
use Rattle.mask_syntax.specs.Leaf.{leaf_reading}

-- one of the bytes ! > <
abbrev pub is_sign : ℕ → Bool
is_sign b = b == 33 || b == 62 || b == 60

-- the sign that such a byte is
abbrev pub sign_of : ℕ → Sign
sign_of b = if b == 33 then Not else (if b == 62 then Below else Above)

-- how many signs stand before the leaf
abbrev pub sign_count : List ℕ → ℕ
sign_count bytes = unwrap_or (position (λ b. not (is_sign b)) bytes) (length bytes)

abbrev pub signs_of : List ℕ → List Sign
signs_of bytes = map sign_of (take (sign_count bytes) bytes)

-- what stands behind the signs, and where it begins
abbrev pub leaf_piece : Piece → Piece
leaf_piece p = record { at = p.at + sign_count p.bytes; bytes = drop (sign_count p.bytes) p.bytes }

-- The term of a piece: all signs at its head, the outermost first, and the leaf behind them.
abbrev pub term_reading : Piece → Result Term TermFault
term_reading p =
    verdict_map (λ leaf. record { signs = signs_of p.bytes; leaf = leaf }) (leaf_reading (leaf_piece p).at (leaf_piece p).bytes)

-- the text begins with a percent sign
abbrev pub begins_noise : List ℕ → Bool
begins_noise [] = false
begins_noise (b ∷ bytes) = b == 37

-- how many noise leaves a piece has: one, where its leaf begins with a percent sign
abbrev pub noise_of : Piece → ℕ
noise_of p = if begins_noise (leaf_piece p).bytes then 1 else 0
