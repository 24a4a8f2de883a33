-- The blocks of a column as a list.
use Rattle.std.proofs.Common.{◌≡◌, ℕ, ◌+◌, ◌<◌, ◌≤◌, length, get_or, Some, None, slice_get, sym, ap, ◌∙◌, arith}
use Rattle.std.specs.Prelude.{option_map}
use Rattle.std.specs.Option.{option_and_then}
use Rattle.std.proofs.lemmas.Option.{slice_get-get_or, slice_get_past}
use Rattle.std.proofs.lemmas.List.FromFn.{length-map-range_with_len, get_or-map-range_with_len}
use Rattle.edit_terms.specs.declared.pos.Pos.{Pos}
use Rattle.edit_terms.specs.Area.{volume, position_of}
use Rattle.edit_terms.specs.StateText.{State}
use Rattle.edit_terms.specs.World.{BlockContent, air_content}
use Rattle.edit_terms.specs.CellList.{position_in, state_in, entity_in, content_in, IsSameFrom}
use Rattle.chunk_sections.specs.Column.{ColumnContents, blocks_of, column_cells}

cell_of : ColumnContents → ℕ → Pos × BlockContent
cell_of c i = (position_of (blocks_of c) i, get_or c.contents i air_content)

pub cells_length : (c : ColumnContents) → length (column_cells c) ≡ volume (blocks_of c)
unfolding cell_of
cells_length c = length-map-range_with_len (cell_of c) 0 (volume (blocks_of c))

pub cell_below : (c : ColumnContents) (i : ℕ) → i < length (column_cells c) → i < volume (blocks_of c)
cell_below c i h = omega (arith, cells_length c)

cell_there : (c : ColumnContents) (i : ℕ) → i < length (column_cells c) → slice_get (column_cells c) i ≡ Some (position_of (blocks_of c) i, get_or c.contents i air_content)
unfolding cell_of
cell_there c i h =
    slice_get-get_or (column_cells c) i (cell_of c i) h
    ∙ ap (λ (x : Pos × BlockContent). Some x) (get_or-map-range_with_len (cell_of c) 0 (volume (blocks_of c)) i i (cell_of c i) (cell_below c i h) (omega arith))

pub position_there : (c : ColumnContents) (i : ℕ) (p : Pos) → i < length (column_cells c) → p ≡ position_of (blocks_of c) i → position_in (column_cells c) i ≡ Some p
position_there c i p h e = ap (option_map (λ (x : Pos × BlockContent). x.0)) (cell_there c i h) ∙ ap (λ (q : Pos). Some q) (sym e)

pub state_there : (c : ColumnContents) (i : ℕ) (s : State) → i < length (column_cells c) → s ≡ (get_or c.contents i air_content).state → state_in (column_cells c) i ≡ Some s
state_there c i s h e = ap (λ o. option_map (λ (b : BlockContent). b.state) (option_map (λ (x : Pos × BlockContent). x.1) o)) (cell_there c i h) ∙ ap (λ (t : State). Some t) (sym e)

pub entity_there : (c : ColumnContents) (i : ℕ) → i < volume (blocks_of c) → (get_or c.contents i air_content).entity ≡ entity_in (column_cells c) i
entity_there c i h = sym (ap (λ o. option_and_then (λ (b : BlockContent). b.entity) (option_map (λ (x : Pos × BlockContent). x.1) o)) (cell_there c i (omega (arith, cells_length c))))

pub entity_past : (c : ColumnContents) (i : ℕ) → volume (blocks_of c) ≤ i → None ≡ entity_in (column_cells c) i
entity_past c i h = sym (ap (λ o. option_and_then (λ (b : BlockContent). b.entity) (option_map (λ (x : Pos × BlockContent). x.1) o)) (slice_get_past (column_cells c) i (omega (arith, cells_length c))))

pub same_one : (c : ColumnContents) (i : ℕ) → IsSameFrom (column_cells c) i 1
same_one c i further h = let none : i + further ≡ i = omega arith in ap (content_in (column_cells c)) none
