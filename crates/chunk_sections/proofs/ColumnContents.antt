-- What a column keeps: the states of its sections and its entities, place by place.
use Rattle.std.proofs.Common.{◌≡◌, ℕ, zero, suc, ◌+◌, ◌-◌, ◌<◌, ◌≤◌, Bool, true, false, ◌&&◌, ◌++◌, take, cond, List, [], ◌∷◌, map, length, get_or, Option, refl, sym, ap, subst, ◌∙◌, true≢false, arith}
use Rattle.std.specs.Prelude.{option_map}
use Rattle.std.specs.List.{range_with_len, filter, find}
use Rattle.std.specs.Ordering.{int_eq}
use Rattle.std.proofs.lemmas.Bool.Decides.{Decides-int_eq}
use Rattle.std.proofs.lemmas.List.{same_lists, get_or_default, get_or-map, length-map}
use Rattle.std.proofs.lemmas.List.Elements.{filter_more}
use Rattle.std.specs.declared.sync.Arc.{Arc}
use Rattle.std.specs.declared.alloc.Global.{Global}
use Rattle.std.proofs.lemmas.List.FromFn.{length-map-range_with_len, get_or-map-range_with_len}
use Rattle.edit_terms.specs.declared.pos.Pos.{Pos}
use Rattle.edit_terms.specs.Area.{Area, volume, holds, index_of, position_of, chunks, is_world_box}
use Rattle.edit_terms.specs.StateText.{State, air}
use Rattle.edit_terms.specs.World.{EntityTags, BlockContent, air_content, content_at, state_at}
use Rattle.edit_terms.specs.Grid.{GridParts, world_of, entity_of, is_same_pos}
use Rattle.edit_terms.proofs.AreaLemmas.{and_both, limits, block_at_place, position_at_index, held_below}
use Rattle.edit_terms.proofs.ChunkLemmas.{in_part}
use Rattle.edit_terms.proofs.WorldLemmas.{state_at_block, entity_at_block}
use Rattle.chunk_sections.specs.declared.cut.Cut.{Cut}
use Rattle.chunk_sections.specs.Cut.{IsCut, cut_of, section_count, section_start, section_size, section_of}
use Rattle.chunk_sections.specs.Section.{kind_of, states_of}
use Rattle.chunk_sections.specs.Column.{first_block, column_box, shown_entity, shown_entities, part_contents, column_world, section_states, state_of_place, content_of_place, kept_contents, IsCutUp, IsColumn, kind_at, grid_states, grid_sections, IsGridPart}
use Rattle.chunk_sections.proofs.CutLemmas.{placed, section_of_start, section_within, cut_fits, volume_layers}

-- the content at a place
pub kept_at : (part : Area) (sections : List (List State)) (entities : List (Pos × EntityTags)) (i : ℕ) → i < volume part
    → get_or (kept_contents part sections entities) i air_content ≡ content_of_place part sections entities i
kept_at part sections entities i within = get_or-map-range_with_len (content_of_place part sections entities) 0 (volume part) i i air_content within (omega arith)

-- the entity at a position
pub kept_entity : (part : Area) (sections : List (List State)) (entities : List (Pos × EntityTags)) (p : Pos) → holds part p ≡ true
    → (content_at (record { area = part; contents = kept_contents part sections entities }) p).entity ≡ entity_of entities p
kept_entity part sections entities p held =
    ap (λ (b : Bool). (cond b (get_or (kept_contents part sections entities) (index_of part p) air_content) air_content).entity) held
    ∙ ap (λ (c : BlockContent). c.entity) (kept_at part sections entities (index_of part p) (held_below part p held))
    ∙ ap (entity_of entities) (position_at_index part p held)

pub column_entity : (area : Area) (chunk : ℕ) (part : Area) (sections : List (List State)) (entities : List (Pos × EntityTags)) (p : Pos) → part ≡ column_box area chunk → holds part p ≡ true
    → (content_at (column_world (record { area = area; chunk = chunk; contents = kept_contents part sections entities })) p).entity ≡ entity_of entities p
column_entity area chunk part sections entities p box held =
    ap (λ (b : Area). (content_at (record { area = b; contents = kept_contents part sections entities }) p).entity) (sym box) ∙ kept_entity part sections entities p held

-- the states of a section
section_kept : (part : Area) (sections : List (List State)) (entities : List (Pos × EntityTags)) → IsCut (cut_of part) → IsCutUp part sections → (s : ℕ) → s < section_count (cut_of part)
    → get_or sections s []
    ≡ map (λ i. (get_or (kept_contents part sections entities) i air_content).state) (range_with_len (section_start (cut_of part) s) (section_size (cut_of part) s))
section_kept part sections entities fits h s there =
    let c : Cut = cut_of part in
    let f : ℕ → State = λ i. (get_or (kept_contents part sections entities) i air_content).state in
    let long = h.sized s there in
    let own : List State = get_or sections s [] in
    same_lists own (map f (range_with_len (section_start c s) (section_size c s))) (long ∙ sym (length-map-range_with_len f (section_start c s) (section_size c s)))
    (λ j d l.
    let within : j < section_size (cut_of part) s = subst (λ n. j < n) long l in
    let place : ℕ = section_start (cut_of part) s + j in
    let inside : section_start (cut_of part) s + j < volume part = subst (λ n. section_start (cut_of part) s + j < n) (sym (volume_layers part)) (section_within (cut_of part) fits s j within) in
    let behind : section_start (cut_of part) s + j - section_start (cut_of part) s ≡ j = omega arith in
    get_or_default own j d air l
    ∙ ap (λ n. get_or own n air) (sym behind)
    ∙ ap (λ t. get_or (get_or sections t []) (place - section_start c t) air) (sym (section_of_start c fits s j within))
    ∙ ap (λ (b : BlockContent). b.state) (sym (kept_at part sections entities place inside))
    ∙ sym (get_or-map-range_with_len f (section_start c s) (section_size c s) j place d within refl))

pub section_is : (area : Area) (chunk : ℕ) (part : Area) (sections : List (List State)) (entities : List (Pos × EntityTags)) → is_world_box part ≡ true → IsColumn area chunk part sections
    → (s : ℕ) → s < section_count (cut_of part) → get_or sections s [] ≡ section_states (record { area = area; chunk = chunk; contents = kept_contents part sections entities }) s
section_is area chunk part sections entities box h s there =
    subst (λ (b : Area). get_or sections s [] ≡ map (λ i. (get_or (kept_contents part sections entities) i air_content).state) (range_with_len (section_start (cut_of b) s) (section_size (cut_of b) s))) h.box
    (section_kept part sections entities (cut_fits part box h.cut.narrow h.cut.short) h.cut s there)

-- ---- from a grid

-- the state at a position of a grid, by its kind
kind_state : (g : GridParts) (p : Pos) → holds g.area p ≡ true → kind_of g.kinds (kind_at g p) ≡ state_at (world_of g) p
kind_state g p held = sym (state_at_block g p (index_of g.area p) (record { held = held; place = refl }) (held_below g.area p held))

-- the states of so many blocks, by their kinds
pub states_of_kinds : (g : GridParts) (part : Area) → IsGridPart g part → (first count : ℕ) → first + count ≤ volume part
    → states_of g.kinds (map (λ i. kind_at g (position_of part i)) (range_with_len first count)) ≡ grid_states g part first count
states_of_kinds g part h first zero within = refl
states_of_kinds g part h first (suc n) within =
    λ i. kind_state g (position_of part first) (h.inside first (omega arith)) i ∷ states_of_kinds g part h (first + 1) n (omega arith) i

-- an entity at a position of a smaller box is one of those that stand in it
entity_of-filter : (same : Pos → Pos → Bool) (p : Pos) (q : Pos → Bool) → ((e : Pos) → same e p ≡ true → q e ≡ true) → (es : List (Pos × EntityTags))
    → find (λ e. same e.0 p) (filter (λ e. q e.0) es) ≡ find (λ e. same e.0 p) es
entity_of-filter same p q h [] = refl
entity_of-filter same p q h (e ∷ es) = by (q e.0) (same e.0 p) refl refl (entity_of-filter same p q h es)
  where
    by : (b c : Bool) → q e.0 ≡ b → same e.0 p ≡ c → find (λ e. same e.0 p) (filter (λ e. q e.0) es) ≡ find (λ e. same e.0 p) es → find (λ e. same e.0 p) (filter (λ e. q e.0) (e ∷ es)) ≡ find (λ e. same e.0 p) (e ∷ es)
    by true true f g rest = rw (f, g) refl
    by true false f g rest = rw (f, g) rest
    by false true f g rest = absurd (true≢false (sym (h e.0 g) ∙ f))
    by false false f g rest = rw (f, g) rest

same_is : (p q : Pos) → is_same_pos q p ≡ true → q ≡ p
same_is p q h =
    let two = and_both (int_eq q.x p.x && int_eq q.y p.y) (int_eq q.z p.z) h in
    let one = and_both (int_eq q.x p.x) (int_eq q.y p.y) two.0 in
    λ i. record { x = (Decides-int_eq q.x p.x).0 one.0 i; y = (Decides-int_eq q.y p.y).0 one.1 i; z = (Decides-int_eq q.z p.z).0 two.1 i }

pub filtered_entity : (part : Area) (p : Pos) → holds part p ≡ true → (es : List (Pos × EntityTags)) → entity_of (filter (λ e. holds part e.0) es) p ≡ entity_of es p
filtered_entity part p held es =
    ap (λ (o : Option (Pos × EntityTags)). option_map (λ e. e.1) o) (entity_of-filter is_same_pos p (holds part) (λ q h. ap (holds part) (same_is p q h) ∙ held) es)

-- the sections of a grid, and one of them
grid_section : (g : GridParts) (part : Area) (s : ℕ) → s < section_count (cut_of part) → get_or (grid_sections g part) s [] ≡ grid_states g part (section_start (cut_of part) s) (section_size (cut_of part) s)
grid_section g part s there =
    get_or-map-range_with_len (λ t. grid_states g part (section_start (cut_of part) t) (section_size (cut_of part) t)) 0 (section_count (cut_of part)) s s [] there (omega arith)

pub grid_cut_up : (g : GridParts) (part : Area) → part.width ≤ 16 → part.length ≤ 16 → (sections : List (List State)) → sections ≡ grid_sections g part → IsCutUp part sections
grid_cut_up g part narrow short sections e = record {
  narrow = narrow;
  short = short;
  count = ap length e ∙ length-map-range_with_len (λ t. grid_states g part (section_start (cut_of part) t) (section_size (cut_of part) t)) 0 (section_count (cut_of part));
  sized = λ s there.
      ap (λ (ss : List (List State)). length (get_or ss s [])) e ∙ ap length (grid_section g part s there)
      ∙ length-map-range_with_len (λ i. state_at (world_of g) (position_of part i)) (section_start (cut_of part) s) (section_size (cut_of part) s);
}

-- the state at a place, from the sections of a grid
grid_state : (g : GridParts) (part : Area) → IsCut (cut_of part) → (i : ℕ) → i < volume part → state_of_place (cut_of part) (grid_sections g part) i ≡ state_at (world_of g) (position_of part i)
grid_state g part fits i within =
    let c : Cut = cut_of part in
    let at = placed (cut_of part) fits i (subst (λ n. i < n) (volume_layers part) within) in
    let s : ℕ = section_of (cut_of part) i in
    let f : ℕ → State = λ j. state_at (world_of g) (position_of part j) in
    let from : section_start (cut_of part) (section_of (cut_of part) i) ≤ i = at.from in
    let to : i < section_start (cut_of part) (section_of (cut_of part) i) + section_size (cut_of part) (section_of (cut_of part) i) = at.to in
    ap (λ ss. get_or ss (i - section_start c s) air) (grid_section g part s at.there)
    ∙ get_or-map-range_with_len f (section_start c s) (section_size c s) (i - section_start c s) i air (omega arith) (omega arith)

-- what is kept of a grid is its world's part
pub kept_of_grid : (g : GridParts) (part : Area) (sections : List (List State)) (entities : List (Pos × EntityTags)) → is_world_box part ≡ true → IsGridPart g part
    → sections ≡ grid_sections g part → entities ≡ filter (λ e. holds part e.0) g.entities → kept_contents part sections entities ≡ part_contents (world_of g) part
kept_of_grid g part sections entities box h es ee =
    let kept : ℕ → BlockContent = content_of_place part sections entities in
    let stands : ℕ → BlockContent = λ i. content_at (world_of g) (position_of part i) in
    let long = length-map-range_with_len kept 0 (volume part) in
    same_lists (map kept (range_with_len 0 (volume part))) (map stands (range_with_len 0 (volume part))) (long ∙ sym (length-map-range_with_len stands 0 (volume part)))
    (λ i d l.
    let within : i < volume part = subst (λ n. i < n) long l in
    let p : Pos = position_of part i in
    let state : (kept i).state ≡ (stands i).state = ap (λ ss. state_of_place (cut_of part) ss i) es ∙ grid_state g part (cut_fits part box h.narrow h.short) i within in
    let entity : (kept i).entity ≡ (stands i).entity = ap (λ ts. entity_of ts p) ee ∙ filtered_entity part p (block_at_place part i box within).held g.entities ∙ sym (entity_at_block g p (h.inside i within)) in
    get_or-map-range_with_len kept 0 (volume part) i i d within (omega arith)
    ∙ (λ j. record { state = state j; entity = entity j })
    ∙ sym (get_or-map-range_with_len stands 0 (volume part) i i d within (omega arith)))

-- a chunk's box as a part of a grid
pub grid_part : (g : GridParts) (chunk : ℕ) (part : Area) → is_world_box g.area ≡ true → is_world_box part ≡ true → chunk < chunks g.area → part ≡ column_box g.area chunk
    → part.width ≤ 16 → part.length ≤ 16 → IsGridPart g part
grid_part g chunk part whole box there e narrow short = record {
  narrow = narrow;
  short = short;
  small = (limits part box).small;
  inside = λ i within. in_part g.area (first_block g.area chunk) (position_of part i) (ap (λ (b : Area). holds b (position_of part i)) (sym e) ∙ (block_at_place part i box within).held);
}

-- one more entity of a list, where it stands in the box
pub entities_more : (q : Pos → Bool) (es : List (Pos × Arc EntityTags Global)) (i : ℕ) (e : Pos × Arc EntityTags Global) (kept new : List (Pos × EntityTags)) → i < length es → e ≡ get_or es i e
    → kept ≡ filter (λ t. q t.0) (take i (shown_entities es)) → new ≡ kept ++ cond (q e.0) (shown_entity e ∷ []) [] → new ≡ filter (λ t. q t.0) (take (i + 1) (shown_entities es))
entities_more q es i e kept new within is old grown =
    let long : i < length (shown_entities es) = omega (arith, length-map es shown_entity) in
    let item : get_or (shown_entities es) i (shown_entity e) ≡ shown_entity e = get_or-map shown_entity es i e (shown_entity e) within ∙ ap shown_entity (sym is) in
    grown ∙ ap (λ ts. ts ++ cond (q e.0) (shown_entity e ∷ []) []) old
    ∙ ap (λ (t : Pos × EntityTags). filter (λ u. q u.0) (take i (shown_entities es)) ++ cond (q t.0) (t ∷ []) []) (sym item)
    ∙ sym (filter_more (λ t. q t.0) (shown_entities es) i (shown_entity e) long)
