-- Captured cells, seen as changes at which the content stays.
use Rattle.std.proofs.Common.{◌≡◌, ℕ, zero, suc, ◌+◌, ◌<◌, true, List, [], ◌∷◌, ◌++◌, map, Option, Some, None, slice_get, MatchOption, refl, sym, ap, ◌∙◌, append_assoc}
use Rattle.std.specs.List.{range_with_len}
use Rattle.std.proofs.lemmas.List.{map-append}
use Rattle.std.proofs.lemmas.Option.{slice_get-map}
use Rattle.edit_terms.specs.declared.pos.Pos.{Pos}
use Rattle.edit_terms.specs.Area.{Area, holds, index_of, position_of}
use Rattle.edit_terms.specs.World.{BlockContent}
use Rattle.edit_terms.specs.CellList.{position_in}
use Rattle.edit_terms.specs.Chunk.{chunk_box, place_in_chunk}
use Rattle.edit_terms.proofs.AreaLemmas.{position_at_index}
use Rattle.edit_terms.proofs.ChunkLemmas.{part_held}
use Rattle.change_set.specs.declared.proposed.Proposed.{Proposed}
use Rattle.change_set.specs.Changes.{positions, rises, stretch, afters}
use Rattle.change_set.specs.Cells.{cell_positions, stretch_cells}
use Rattle.change_set.proofs.ListLemmas.{cells, rises_two}

-- the positions of cells are those of the changes
pub positions_of_cells : (list : List Proposed) → cell_positions (afters list) ≡ positions list
positions_of_cells [] = refl
positions_of_cells (d ∷ list) = ap (λ (ps : List Pos). d.at ∷ ps) (positions_of_cells list)

pub position_read : (list : List Proposed) (i : ℕ) → position_in (afters list) i ≡ slice_get (positions list) i
position_read list i = sym (slice_get-map (λ (c : Pos × BlockContent). c.0) (afters list) i) ∙ ap (λ (ps : List Pos). slice_get ps i) (positions_of_cells list)

-- the cells of a stretch
afters-cells : (part : Area) (c : BlockContent) (place n : ℕ) → afters (cells part c c place n) ≡ map (λ k. (position_of part k, c)) (range_with_len place n)
afters-cells part c place zero = refl
afters-cells part c place (suc n) = ap (λ (xs : List (Pos × BlockContent)). (position_of part place, c) ∷ xs) (afters-cells part c (place + 1) n)

pub afters-stretch : (list : List Proposed) (a : Area) (first : Pos) (n : ℕ) (c : BlockContent) → afters (list ++ stretch a first n c c) ≡ afters list ++ stretch_cells a first n c
afters-stretch list a first n c =
    map-append (λ (d : Proposed). (d.at, d.after)) list (stretch a first n c c)
    ∙ ap (λ (xs : List (Pos × BlockContent)). afters list ++ xs) (afters-cells (chunk_box a first) c (place_in_chunk a first) n)

-- a stretch of one cell is that cell
pub one_stretch_cell : (a : Area) (p : Pos) (c : BlockContent) → holds a p ≡ true → stretch_cells a p 1 c ≡ (p, c) ∷ []
one_stretch_cell a p c held = ap (λ (q : Pos). let xs : List (Pos × BlockContent) = (q, c) ∷ [] in xs) (position_at_index (chunk_box a p) p (part_held a p held))

-- behind a cell may come each position with a higher place
pub follows_cell : (a : Area) (list : List (Pos × BlockContent)) (p q : Pos) (c : BlockContent) → rises a (cell_positions list ++ p ∷ []) ≡ true → holds a p ≡ true → holds a q ≡ true → index_of a p < index_of a q
    → rises a (cell_positions (list ++ (p, c) ∷ []) ++ q ∷ []) ≡ true
follows_cell a list p q c h held_p held_q above =
    let joined : rises a (cell_positions list ++ p ∷ q ∷ []) ≡ true = rises_two a (cell_positions list) p q h held_p held_q above in
    rw (map-append (λ (d : Pos × BlockContent). d.0) list ((p, c) ∷ []), append_assoc (cell_positions list) (p ∷ []) (q ∷ [])) joined

-- where a position is found, by the cells' positions
pub found_in_cells : (o : Option ℕ) (list : List Proposed) (p : Pos) → MatchOption o ((i : ℕ) → slice_get (positions list) i ≡ Some p → ⊥) (λ i. slice_get (positions list) i ≡ Some p)
    → MatchOption o ((i : ℕ) → position_in (afters list) i ≡ Some p → ⊥) (λ i. position_in (afters list) i ≡ Some p)
found_in_cells None list p h = λ i there. h i (sym (position_read list i) ∙ there)
found_in_cells (Some i) list p h = position_read list i ∙ h
