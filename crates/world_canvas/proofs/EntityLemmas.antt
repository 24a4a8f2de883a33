-- Entities on a canvas: listed in index order they are a grid's, and each block has its own.
use Rattle.std.proofs.Common.{◌≡◌, ◌≢◌, ℕ, zero, suc, ◌+◌, ◌-◌, ◌<◌, ◌≤◌, Bool, true, false, cond, ◌&&◌, eqb, List, [], ◌∷◌, length, map, drop, get_or, set, Option, Some, None, refl, sym, ap, ◌∙◌, subst, arith, leb, ltb}
use Rattle.std.specs.Prelude.{option_map}
use Rattle.std.specs.List.{list_all, filter_map, range_with_len, cons_option, find}
use Rattle.std.specs.Ordering.{int_eq}
use Rattle.std.proofs.lemmas.Bool.{eqb-true, eq-eqb, le-leb, ltb-true, lt-ltb}
use Rattle.std.proofs.lemmas.Bool.Decides.{Decides-int_eq, nat_tests}
use Rattle.std.proofs.lemmas.Grind.{get_or-set_at}
use Rattle.std.proofs.Math.Seq.{drop-cons, drop-length}
use Rattle.std.proofs.lemmas.List.{get_or-map, length-map, get_or_default, get_or-set_other}
use Rattle.std.proofs.Math.ListN.{length-set}
use Rattle.edit_terms.specs.declared.pos.Pos.{Pos}
use Rattle.edit_terms.specs.Area.{Area, holds, index_of, position_of, volume, is_world_box}
use Rattle.edit_terms.specs.StateText.{air}
use Rattle.edit_terms.specs.World.{BlockContent, EntityTags, air_content, without_entity}
use Rattle.edit_terms.specs.Grid.{GridParts, is_same_pos, entity_of, is_rising_from, world_of, state_of_cell, content_of_cell, is_numbered}
use Rattle.edit_terms.proofs.AreaLemmas.{and_both, block_at_place, position_at_index, held_below}
use Rattle.std.specs.Cmp.Derive.{both_true}
use Rattle.std.proofs.lemmas.List.Sums.{AllPass-from_list_all, list_all-from_AllPass}
use Rattle.run_terms.proofs.Lists.{map-range_agrees}
use Rattle.plain_terms.specs.Shown.{IsNumbered, content_shown}
use Rattle.world_canvas.specs.Canvas.{Painting, shown, IsGrown}
use Rattle.world_canvas.specs.Numbering.{IsName, AreNumbersOf}
use Rattle.world_canvas.specs.Placing.{entity_here, IsPlaced, IsBare}
use Rattle.world_canvas.proofs.GrowthLemmas.{grown_content, grown_length}

-- positions that the test takes for one are one
same_pos : (p q : Pos) → is_same_pos p q ≡ true → p ≡ q
same_pos p q h =
    let first = and_both (int_eq p.x q.x && int_eq p.y q.y) (int_eq p.z q.z) h in
    let two = and_both (int_eq p.x q.x) (int_eq p.y q.y) first.0 in
    let x : p.x ≡ q.x = (Decides-int_eq p.x q.x).0 two.0 in
    let y : p.y ≡ q.y = (Decides-int_eq p.y q.y).0 two.1 in
    let z : p.z ≡ q.z = (Decides-int_eq p.z q.z).0 first.1 in
    λ i. record { x = x i; y = y i; z = z i }

itself : (p : Pos) → is_same_pos p p ≡ true
itself p =
    let x : int_eq p.x p.x ≡ true = (Decides-int_eq p.x p.x).1 refl in
    let y : int_eq p.y p.y ≡ true = (Decides-int_eq p.y p.y).1 refl in
    let z : int_eq p.z p.z ≡ true = (Decides-int_eq p.z p.z).1 refl in
    rw (x, y, z) refl

-- a position of the box is that of a place where its own place is that one
pub is_same_pos-place : (a : Area) (p : Pos) (i : ℕ) → is_world_box a ≡ true → holds a p ≡ true → i < volume a → is_same_pos p (position_of a i) ≡ eqb i (index_of a p)
is_same_pos-place a p i box held below = by_test (eqb i (index_of a p)) refl
  where
    by_test : (b : Bool) → eqb i (index_of a p) ≡ b → is_same_pos p (position_of a i) ≡ b
    by_test true e =
        let at : position_of a i ≡ p = ap (position_of a) (eqb-true i (index_of a p) e) ∙ position_at_index a p held in
        ap (λ (q : Pos). is_same_pos p q) at ∙ itself p
    by_test false e = other (is_same_pos p (position_of a i)) refl
      where
        other : (c : Bool) → is_same_pos p (position_of a i) ≡ c → c ≡ false
        other false d = refl
        other true d =
            let place : i ≡ index_of a p = sym (block_at_place a i box below).place ∙ ap (index_of a) (sym (same_pos p (position_of a i) d)) in
            sym (eq-eqb i (index_of a p) place) ∙ e

-- ---- an entity is placed

differ : true ≡ false → ⊥
differ e = cc

-- a place has got a content's number
placed_content : (kinds new_kinds : List BlockContent) (cells : List ℕ) (n : ℕ) (put : BlockContent) (at i : ℕ) → IsGrown kinds new_kinds → IsName new_kinds n put → at < length cells → get_or cells i 0 < length kinds
    → content_shown new_kinds (set cells at n) i ≡ cond (eqb i at) put (content_shown kinds cells i)
placed_content kinds new_kinds cells n put at i grown name inside within = by_test (eqb i at) refl
  where
    by_test : (b : Bool) → eqb i at ≡ b → content_shown new_kinds (set cells at n) i ≡ cond b put (content_shown kinds cells i)
    by_test true e = ap (λ (m : ℕ). get_or new_kinds m air_content) (get_or-set_at cells at i n 0 (eqb-true i at e) inside) ∙ name.is
    by_test false e =
        let other : i ≢ at = λ (same : i ≡ at). absurd (differ (sym (eq-eqb i at same) ∙ e)) in
        ap (λ (m : ℕ). get_or new_kinds m air_content) (get_or-set_other cells at i n 0 other) ∙ grown_content kinds new_kinds grown (get_or cells i 0) within

-- each number names a content
pub placed_numbered : (area : Area) (kinds new_kinds : List BlockContent) (cells : List ℕ) (n : ℕ) (at : ℕ) → IsNumbered area kinds cells → IsGrown kinds new_kinds → n < length new_kinds → IsNumbered area new_kinds (set cells at n)
placed_numbered area kinds new_kinds cells n at numbered grown within = record {
  whole = length-set {A = ℕ} cells at n ∙ numbered.whole;
  within = λ i d h.
      let old : i < length cells = omega (arith, length-set {A = ℕ} cells at n) in
      subst (λ (m : ℕ). m < length new_kinds) (get_or_default (set cells at n) i 0 d h) (by_test (eqb i at) refl old);
}
  where
    by_test : {i : ℕ} (b : Bool) → eqb i at ≡ b → i < length cells → get_or (set cells at n) i 0 < length new_kinds
    by_test {i} true e old = omega (arith, get_or-set_at cells at i n 0 (eqb-true i at e) (subst (λ (m : ℕ). m < length cells) (eqb-true i at e) old), within)
    by_test {i} false e old =
        let other : i ≢ at = λ (same : i ≡ at). absurd (differ (sym (eq-eqb i at same) ∙ e)) in
        omega (arith, get_or-set_other cells at i n 0 other, grown_length kinds new_kinds grown, numbered.within i 0 old)

-- a block of the canvas has an entity more
pub placed : (p : Painting) (new_kinds : List BlockContent) (n : ℕ) (at : Pos) (entity : EntityTags) → IsNumbered p.area p.kinds p.cells → holds p.area at ≡ true → IsGrown p.kinds new_kinds
    → IsName new_kinds n (record (content_shown p.kinds p.cells (index_of p.area at)) { entity = Some entity }) → IsPlaced p (record { area = p.area; kinds = new_kinds; cells = set p.cells (index_of p.area at) n }) at entity
placed p new_kinds n at entity numbered held grown name =
    let index = index_of p.area at in
    let below : index < volume p.area = held_below p.area at held in
    let inside : index < length p.cells = omega (arith, numbered.whole) in
    let put : BlockContent = record (content_shown p.kinds p.cells index) { entity = Some entity } in
    record {
      area = refl;
      contents = λ i within.
          let old : i < length p.cells = omega (arith, numbered.whole) in
          placed_content p.kinds new_kinds p.cells n put index i grown name inside (numbered.within i 0 old) ∙ here i (eqb i index) refl;
    }
  where
    here : (i : ℕ) (b : Bool) → eqb i (index_of p.area at) ≡ b → cond b (record (content_shown p.kinds p.cells (index_of p.area at)) { entity = Some entity }) (content_shown p.kinds p.cells i) ≡ cond b (record (content_shown p.kinds p.cells i) { entity = Some entity }) (content_shown p.kinds p.cells i)
    here i true e = ap (λ (j : ℕ). record (content_shown p.kinds p.cells j) { entity = Some entity }) (sym (eqb-true i (index_of p.area at) e))
    here i false e = refl

-- ---- the list of a canvas' entities

-- the listed positions rise
pub entities_rise : (p : Painting) (least a n : ℕ) → is_world_box p.area ≡ true → least ≤ a → a + n ≤ volume p.area → is_rising_from p.area least (filter_map (entity_here p) (range_with_len a n)) ≡ true
entities_rise p least a zero box low high = refl
entities_rise p least a (suc n) box low high =
    let block = block_at_place p.area a box (omega arith) in
    by_entity (content_shown p.kinds p.cells a).entity block.held (le-leb least (index_of p.area (position_of p.area a)) (omega (arith, block.place)))
    (entities_rise p least (a + 1) n box (omega arith) (omega arith))
    (entities_rise p (index_of p.area (position_of p.area a) + 1) (a + 1) n box (omega (arith, block.place)) (omega arith))
  where
    by_entity : (o : Option EntityTags) → holds p.area (position_of p.area a) ≡ true → leb least (index_of p.area (position_of p.area a)) ≡ true
        → is_rising_from p.area least (filter_map (entity_here p) (range_with_len (a + 1) n)) ≡ true
        → is_rising_from p.area (index_of p.area (position_of p.area a) + 1) (filter_map (entity_here p) (range_with_len (a + 1) n)) ≡ true
        → is_rising_from p.area least (cons_option (option_map (λ e. (position_of p.area a, e)) o) (filter_map (entity_here p) (range_with_len (a + 1) n))) ≡ true
    by_entity None held far none some = none
    by_entity (Some e) held far none some = both_true (both_true held far) some

-- the first of a list, or one behind it
found_first : (q p : Pos) (x : EntityTags) (tail : List (Pos × EntityTags)) (b : Bool) → is_same_pos q p ≡ b → entity_of ((q, x) ∷ tail) p ≡ cond b (Some x) (entity_of tail p)
found_first q p x tail true e = ap (λ (b : Bool). option_map (λ (f : Pos × EntityTags). f.1) (cond b (Some (q, x)) (find (λ f. is_same_pos f.0 p) tail))) e
found_first q p x tail false e = ap (λ (b : Bool). option_map (λ (f : Pos × EntityTags). f.1) (cond b (Some (q, x)) (find (λ f. is_same_pos f.0 p) tail))) e

-- a position is listed once: what is found there is the content's entity
pub entity_found : (p : Painting) (a n i : ℕ) → is_world_box p.area ≡ true → a + n ≤ volume p.area → i < volume p.area
    → entity_of (filter_map (entity_here p) (range_with_len a n)) (position_of p.area i) ≡ cond (leb a i && ltb i (a + n)) (content_shown p.kinds p.cells i).entity None
entity_found p a zero i box fits within = ap (λ (b : Bool). cond b (content_shown p.kinds p.cells i).entity None) (sym none)
  where
    none : (leb a i && ltb i (a + 0)) ≡ false
    none = grind (arith, nat_tests)
entity_found p a (suc n) i box fits within = by_entity (content_shown p.kinds p.cells a).entity refl (entity_found p (a + 1) n i box (omega arith) within)
  where
    in_range_more : eqb i a ≡ false → (leb (a + 1) i && ltb i (a + 1 + n)) ≡ (leb a i && ltb i (a + suc n))
    in_range_more e = grind (arith, nat_tests)

    here : eqb i a ≡ true → (leb a i && ltb i (a + suc n)) ≡ true
    here e = grind (arith, nat_tests)

    past : eqb i a ≡ true → (leb (a + 1) i && ltb i (a + 1 + n)) ≡ false
    past e = grind (arith, nat_tests)

    same_test : is_same_pos (position_of p.area a) (position_of p.area i) ≡ eqb i a
    same_test =
        let block = block_at_place p.area a box (omega arith) in
        is_same_pos-place p.area (position_of p.area a) i box block.held within ∙ ap (eqb i) block.place

    by_entity : (o : Option EntityTags) → (content_shown p.kinds p.cells a).entity ≡ o
        → entity_of (filter_map (entity_here p) (range_with_len (a + 1) n)) (position_of p.area i) ≡ cond (leb (a + 1) i && ltb i (a + 1 + n)) (content_shown p.kinds p.cells i).entity None
        → entity_of (cons_option (option_map (λ e. (position_of p.area a, e)) o) (filter_map (entity_here p) (range_with_len (a + 1) n))) (position_of p.area i) ≡ cond (leb a i && ltb i (a + suc n)) (content_shown p.kinds p.cells i).entity None
    by_entity None is rest = by_test (eqb i a) refl
      where
        by_test : (b : Bool) → eqb i a ≡ b → entity_of (filter_map (entity_here p) (range_with_len (a + 1) n)) (position_of p.area i) ≡ cond (leb a i && ltb i (a + suc n)) (content_shown p.kinds p.cells i).entity None
        by_test true e =
            rest ∙ ap (λ (b : Bool). cond b (content_shown p.kinds p.cells i).entity None) (past e)
            ∙ sym (ap (λ (b : Bool). cond b (content_shown p.kinds p.cells i).entity None) (here e) ∙ ap (λ (j : ℕ). (content_shown p.kinds p.cells j).entity) (eqb-true i a e) ∙ is)
        by_test false e = rest ∙ ap (λ (b : Bool). cond b (content_shown p.kinds p.cells i).entity None) (in_range_more e)
    by_entity (Some x) is rest = by_test (eqb i a) refl
      where
        by_test : (b : Bool) → eqb i a ≡ b → entity_of ((position_of p.area a, x) ∷ filter_map (entity_here p) (range_with_len (a + 1) n)) (position_of p.area i) ≡ cond (leb a i && ltb i (a + suc n)) (content_shown p.kinds p.cells i).entity None
        by_test true e =
            found_first (position_of p.area a) (position_of p.area i) x (filter_map (entity_here p) (range_with_len (a + 1) n)) true (same_test ∙ e)
            ∙ sym (ap (λ (b : Bool). cond b (content_shown p.kinds p.cells i).entity None) (here e) ∙ ap (λ (j : ℕ). (content_shown p.kinds p.cells j).entity) (eqb-true i a e) ∙ is)
        by_test false e =
            found_first (position_of p.area a) (position_of p.area i) x (filter_map (entity_here p) (range_with_len (a + 1) n)) false (same_test ∙ e)
            ∙ rest ∙ ap (λ (b : Bool). cond b (content_shown p.kinds p.cells i).entity None) (in_range_more e)

-- ---- canvas and grid show one world

-- the grid of a canvas
abbrev pub grid_shown : Painting → GridParts
grid_shown p = record { area = p.area; kinds = map (λ (k : BlockContent). k.state) p.kinds; cells = p.cells; entities = filter_map (entity_here p) (range_with_len 0 (volume p.area)) }

cell_shown : (p : Painting) → IsNumbered p.area p.kinds p.cells → is_world_box p.area ≡ true → (i : ℕ) → i < volume p.area → content_of_cell (grid_shown p) i ≡ content_shown p.kinds p.cells i
cell_shown p numbered box i within =
    let inside : i < length p.cells = omega (arith, numbered.whole) in
    let state : get_or (map (λ (k : BlockContent). k.state) p.kinds) (get_or p.cells i 0) air ≡ (content_shown p.kinds p.cells i).state =
    get_or-map (λ (k : BlockContent). k.state) p.kinds (get_or p.cells i 0) air_content air (numbered.within i 0 inside) in
    let here : (leb 0 i && ltb i (0 + volume p.area)) ≡ true = grind (arith, nat_tests) in
    let entity : entity_of (filter_map (entity_here p) (range_with_len 0 (volume p.area))) (position_of p.area i) ≡ (content_shown p.kinds p.cells i).entity =
    entity_found p 0 (volume p.area) i box (omega arith) within ∙ ap (λ (b : Bool). cond b (content_shown p.kinds p.cells i).entity None) here in
    λ j. record { state = state j; entity = entity j }

pub grid_shows : (p : Painting) → IsNumbered p.area p.kinds p.cells → is_world_box p.area ≡ true → world_of (grid_shown p) ≡ shown p
grid_shows p numbered box = ap (λ (cs : List BlockContent). record { area = p.area; contents = cs }) (map-range_agrees (content_of_cell (grid_shown p)) (content_shown p.kinds p.cells) 0 (volume p.area) (volume p.area) (omega arith) (λ i within. cell_shown p numbered box i within))

-- a canvas whose contents are a grid's shows its world
pub shows_grid : (p : Painting) (g : GridParts) → p.area ≡ g.area → ((i : ℕ) → i < volume g.area → content_shown p.kinds p.cells i ≡ content_of_cell g i) → shown p ≡ world_of g
shows_grid p g area same =
    ap (λ (a : Area). record { area = a; contents = map (content_shown p.kinds p.cells) (range_with_len 0 (volume a)) }) area
    ∙ ap (λ (cs : List BlockContent). record { area = g.area; contents = cs }) (map-range_agrees (content_shown p.kinds p.cells) (content_of_cell g) 0 (volume g.area) (volume g.area) (omega arith) same)

-- the numbers of a grid's states
pub cells_numbered : (g : GridParts) → is_numbered g.area g.kinds g.cells ≡ true → (k d : ℕ) → k < length g.cells → get_or g.cells k d < length g.kinds
cells_numbered g h k d inside =
    let parts = and_both (eqb (length g.cells) (volume g.area)) (list_all (λ n. ltb n (length g.kinds)) g.cells) h in
    ltb-true (get_or g.cells k d) (length g.kinds) (AllPass-from_list_all (λ n. ltb n (length g.kinds)) g.cells parts.1 k d inside)

cells_whole : (g : GridParts) → is_numbered g.area g.kinds g.cells ≡ true → length g.cells ≡ volume g.area
cells_whole g h =
    let parts = and_both (eqb (length g.cells) (volume g.area)) (list_all (λ n. ltb n (length g.kinds)) g.cells) h in
    eqb-true (length g.cells) (volume g.area) parts.0

-- where each state of a grid has a number
module _ (g : GridParts) (kinds : List BlockContent) (numbers : List ℕ) (counted : is_numbered g.area g.kinds g.cells ≡ true) (names : AreNumbersOf kinds (map without_entity g.kinds) numbers) where
  state_named : (k : ℕ) → k < length g.cells → IsName kinds (get_or (map (λ n. get_or numbers n 0) g.cells) k 0) (without_entity (get_or g.kinds (get_or g.cells k 0) air))
  state_named k inside =
      let n = get_or g.cells k 0 in
      let there : n < length g.kinds = cells_numbered g counted k 0 inside in
      let long : length (map without_entity g.kinds) ≡ length g.kinds = length-map g.kinds without_entity in
      let content : get_or (map without_entity g.kinds) n air_content ≡ without_entity (get_or g.kinds n air) = get_or-map without_entity g.kinds n air air_content there in
      let number : get_or (map (λ m. get_or numbers m 0) g.cells) k 0 ≡ get_or numbers n 0 = get_or-map (λ m. get_or numbers m 0) g.cells k 0 0 inside in
      let name : IsName kinds (get_or numbers n 0) (get_or (map without_entity g.kinds) n air_content) = names.each n (omega (arith, there, long, names.long)) in
      subst (λ (m : ℕ). IsName kinds m (without_entity (get_or g.kinds n air))) (sym number) (subst (λ (c : BlockContent). IsName kinds (get_or numbers n 0) c) content name)

  -- the cells are numbered
  pub bare_numbered : IsNumbered g.area kinds (map (λ n. get_or numbers n 0) g.cells)
  bare_numbered = record {
    whole = length-map g.cells (λ n. get_or numbers n 0) ∙ cells_whole g counted;
    within = λ k d inside.
        let there : k < length g.cells = omega (arith, inside, length-map g.cells (λ n. get_or numbers n 0)) in
        subst (λ (m : ℕ). m < length kinds) (get_or_default (map (λ n. get_or numbers n 0) g.cells) k 0 d inside) (state_named k there).within;
  }

  -- and show the grid's states
  pub bare_shown : IsBare g (record { area = g.area; kinds = kinds; cells = map (λ n. get_or numbers n 0) g.cells })
  bare_shown = record { area = refl; contents = λ k within. (state_named k (omega (arith, within, cells_whole g counted))).is }

-- the numbers of a canvas are a grid's
pub shown_numbered : (p : Painting) → IsNumbered p.area p.kinds p.cells → is_numbered p.area (map (λ (k : BlockContent). k.state) p.kinds) p.cells ≡ true
shown_numbered p numbered =
    both_true (eq-eqb (length p.cells) (volume p.area) numbered.whole)
    (list_all-from_AllPass (λ n. ltb n (length (map (λ (k : BlockContent). k.state) p.kinds))) p.cells (λ i d inside. lt-ltb (get_or p.cells i d) (length (map (λ (k : BlockContent). k.state) p.kinds)) (omega (arith, numbered.within i d inside, length-map p.kinds (λ (k : BlockContent). k.state)))))

-- ---- a grid's entities are placed

-- each listed position is of the box
pub rising_held : (a : Area) (least : ℕ) (es : List (Pos × EntityTags)) (i : ℕ) (d : Pos × EntityTags) → is_rising_from a least es ≡ true → i < length es → holds a (get_or es i d).0 ≡ true
rising_held a least [] i d rising within = absurd (omega arith)
rising_held a least (e ∷ es) zero d rising within =
    let parts = and_both (holds a e.0 && leb least (index_of a e.0)) (is_rising_from a (index_of a e.0 + 1) es) rising in
    (and_both (holds a e.0) (leb least (index_of a e.0)) parts.0).0
rising_held a least (e ∷ es) (suc i) d rising within =
    let parts = and_both (holds a e.0 && leb least (index_of a e.0)) (is_rising_from a (index_of a e.0 + 1) es) rising in
    rising_held a (index_of a e.0 + 1) es i d parts.1 (omega arith)

-- the content of a place, where the entities from some place of the list on are placed
abbrev content_placed : GridParts → List (Pos × EntityTags) → ℕ → BlockContent
content_placed g es i = record { state = state_of_cell g i; entity = entity_of es (position_of g.area i) }

-- one entity more, before those that are placed
pub placed_more : (g : GridParts) (old new : Painting) (at : Pos) (entity : EntityTags) (rest : List (Pos × EntityTags)) (i : ℕ) → is_world_box g.area ≡ true → old.area ≡ g.area → holds g.area at ≡ true
    → IsPlaced old new at entity → i < volume g.area → content_shown old.kinds old.cells i ≡ content_placed g rest i → content_shown new.kinds new.cells i ≡ content_placed g ((at, entity) ∷ rest) i
placed_more g old new at entity rest i box area held placed within was =
    placed.contents i (subst (λ (a : Area). i < volume a) (sym area) within)
    ∙ ap (λ (a : Area). cond (eqb i (index_of a at)) (record (content_shown old.kinds old.cells i) { entity = Some entity }) (content_shown old.kinds old.cells i)) area
    ∙ ap (λ (c : BlockContent). cond (eqb i (index_of g.area at)) (record c { entity = Some entity }) c) was
    ∙ by_test (eqb i (index_of g.area at))
    ∙ ap (λ (o : Option EntityTags). record { state = state_of_cell g i; entity = o }) (sym (found_first at (position_of g.area i) entity rest (eqb i (index_of g.area at)) (is_same_pos-place g.area at i box held within)))
  where
    by_test : (b : Bool) → cond b (record (content_placed g rest i) { entity = Some entity }) (content_placed g rest i) ≡ record { state = state_of_cell g i; entity = cond b (Some entity) (entity_of rest (position_of g.area i)) }
    by_test true = refl
    by_test false = refl

-- the entities from a place on, where one more is placed
pub entities_from : (es : List (Pos × EntityTags)) (k : ℕ) (e : Pos × EntityTags) → k < length es → get_or es (length es - 1 - k) e ≡ e → drop (length es - (k + 1)) es ≡ e ∷ drop (length es - k) es
entities_from es k e within is =
    let m : length es - (k + 1) ≡ length es - 1 - k = omega arith in
    let next : suc (length es - 1 - k) ≡ length es - k = omega arith in
    ap (λ (n : ℕ). drop n es) m
    ∙ drop-cons es (length es - 1 - k) e (omega arith)
    ∙ ap (λ (f : Pos × EntityTags). f ∷ drop (suc (length es - 1 - k)) es) is
    ∙ ap (λ (n : ℕ). e ∷ drop n es) next

-- from the end on nothing is listed
pub none_from_end : (es : List (Pos × EntityTags)) → drop (length es - 0) es ≡ []
none_from_end es = ap (λ (n : ℕ). drop n es) (omega arith) ∙ drop-length es

-- what is listed at a place counted from the end, in a list that shows another one
pub record IsListed (es : List (Pos × EntityTags)) (k : ℕ) (e : Pos × EntityTags) : Type 0 where
  pub within : k < length es
  pub is : get_or es (length es - 1 - k) e ≡ e

pub listed_at : {X : Type 0} (value : X → EntityTags) (raw : List (Pos × X)) (es : List (Pos × EntityTags)) (k : ℕ) (placed : Pos × X) → map (λ (e : Pos × X). (e.0, value e.1)) raw ≡ es → k < length raw
    → placed ≡ get_or raw (length raw - 1 - k) placed → IsListed es k (placed.0, value placed.1)
listed_at {X} value raw es k placed shows within is =
    let view : Pos × X → Pos × EntityTags = λ e. (e.0, value e.1) in
    let long : length es ≡ length raw = ap (λ (xs : List (Pos × EntityTags)). length xs) (sym shows) ∙ length-map raw view in
    record {
      within = omega (arith, long);
      is = ap (λ (n : ℕ). get_or es (n - 1 - k) (view placed)) long
          ∙ ap (λ (xs : List (Pos × EntityTags)). get_or xs (length raw - 1 - k) (view placed)) (sym shows)
          ∙ get_or-map view raw (length raw - 1 - k) placed (view placed) (omega arith)
          ∙ ap view (sym is);
    }
