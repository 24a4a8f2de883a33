-- A grid's world read at a position is the grid read at the position's place.
use Rattle.std.proofs.Common.{◌≡◌, ℕ, ◌<◌, Bool, true, false, cond, List, [], ◌∷◌, map, get_or, Some, None, refl, ap, ◌∙◌, arith}
use Rattle.std.specs.Prelude.{option_map}
use Rattle.std.specs.List.{find}
use Rattle.std.specs.declared.sync.Arc.{Arc}
use Rattle.std.specs.declared.alloc.Global.{Global}
use Rattle.std.specs.Arc.{arc_value}
use Rattle.std.proofs.lemmas.List.FromFn.{get_or-map-range_with_len}
use Rattle.edit_terms.specs.declared.pos.Pos.{Pos}
use Rattle.edit_terms.specs.Area.{volume, holds, index_of, IsBlockAt}
use Rattle.edit_terms.specs.World.{EntityTags, BlockContent, content_at, state_at, air_content}
use Rattle.edit_terms.specs.Grid.{GridParts, world_of, content_of_cell, state_of_cell, entity_of, is_same_pos}
use Rattle.edit_terms.proofs.AreaLemmas.{position_at_index, held_below}

pub content_at_block : (g : GridParts) (p : Pos) (index : ℕ) → IsBlockAt g.area index p → index < volume g.area → content_at (world_of g) p ≡ content_of_cell g index
content_at_block g p index block below =
    ap (λ (b : Bool). cond b (get_or (world_of g).contents (index_of g.area p) air_content) air_content) block.held
    ∙ ap (λ (i : ℕ). get_or (world_of g).contents i air_content) block.place
    ∙ get_or-map-range_with_len (content_of_cell g) 0 (volume g.area) index index air_content below (omega arith)

pub state_at_block : (g : GridParts) (p : Pos) (index : ℕ) → IsBlockAt g.area index p → index < volume g.area → state_at (world_of g) p ≡ state_of_cell g index
state_at_block g p index block below = ap (λ (c : BlockContent). c.state) (content_at_block g p index block below)

pub entity_at_block : (g : GridParts) (p : Pos) → holds g.area p ≡ true → (content_at (world_of g) p).entity ≡ entity_of g.entities p
entity_at_block g p held =
    let block : IsBlockAt g.area (index_of g.area p) p = record { held = held; place = refl } in
    ap (λ (c : BlockContent). c.entity) (content_at_block g p (index_of g.area p) block (held_below g.area p held))
    ∙ ap (entity_of g.entities) (position_at_index g.area p held)

pub no_entity_outside : (g : GridParts) (p : Pos) → holds g.area p ≡ false → (content_at (world_of g) p).entity ≡ None
no_entity_outside g p out = ap (λ (b : Bool). (cond b (get_or (world_of g).contents (index_of g.area p) air_content) air_content).entity) out

step : {X : Type 0} (value : X → EntityTags) (e : Pos × X) (es : List (Pos × X)) (p : Pos) (b : Bool)
    → option_map (λ (f : Pos × EntityTags). f.1) (find (λ f. is_same_pos f.0 p) (map (λ (f : Pos × X). (f.0, value f.1)) es)) ≡ option_map (λ (f : Pos × X). value f.1) (find (λ f. is_same_pos f.0 p) es)
    → option_map (λ (f : Pos × EntityTags). f.1) (cond b (Some (e.0, value e.1)) (find (λ f. is_same_pos f.0 p) (map (λ (f : Pos × X). (f.0, value f.1)) es))) ≡ option_map (λ (f : Pos × X). value f.1) (cond b (Some e) (find (λ f. is_same_pos f.0 p) es))
step value e es p true h = refl
step value e es p false h = h

listed : {X : Type 0} (value : X → EntityTags) (es : List (Pos × X)) (p : Pos) → entity_of (map (λ (e : Pos × X). (e.0, value e.1)) es) p ≡ option_map (λ (e : Pos × X). value e.1) (find (λ e. is_same_pos e.0 p) es)
listed value [] p = refl
listed value (e ∷ es) p = step value e es p (is_same_pos e.0 p) (listed value es p)

-- the entity listed for a position, through what shares it
pub entity_listed : (es : List (Pos × Arc EntityTags Global)) (p : Pos) → entity_of (map (λ e. (e.0, arc_value e.1)) es) p ≡ option_map (λ e. arc_value e.1) (find (λ e. is_same_pos e.0 p) es)
entity_listed es p = listed arc_value es p
