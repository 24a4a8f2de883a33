-- The entities of a grid and the contents of the world that it keeps.
use Rattle.std.proofs.Common.{◌≡◌, ℕ, zero, suc, ◌+◌, ◌<◌, ◌≤◌, Bool, true, false, ◌&&◌, cond, List, [], ◌∷◌, length, map, get_or, Some, None, Option, refl, sym, ap, ◌∙◌, subst, arith, All, ⊎_elim}
use Rattle.std.specs.Prelude.{option_map, find, is_some, IfSome, nat_le}
use Rattle.std.specs.Bool.{Decides}
use Rattle.std.specs.List.{AllByRecursion, filter_map, cons_option, range_with_len}
use Rattle.std.specs.Cmp.Derive.{both_true}
use Rattle.std.proofs.lemmas.Bool.{leb-true, le-leb, cases_eq}
use Rattle.std.proofs.lemmas.Bool.Decides.{Decides-like}
use Rattle.std.proofs.lemmas.List.{length-map}
use Rattle.std.proofs.lemmas.List.Elements.{All-map, recursion_from_All}
use Rattle.std.proofs.lemmas.List.FromFn.{get_or-map-range_with_len}
use Rattle.edit_terms.specs.declared.pos.Pos.{Pos}
use Rattle.edit_terms.specs.Area.{Area, volume, holds, index_of, position_of, is_world_box}
use Rattle.edit_terms.specs.Grid.{GridParts, world_of, content_of_cell, is_same_pos, is_rising_from, entity_of}
use Rattle.edit_terms.specs.World.{EntityTags, BlockContent, air_content}
use Rattle.edit_terms.proofs.AreaLemmas.{and_both, position_at_index, held_below}
use Rattle.block_entities.specs.FileEntities.{IsFileEntity, AreFileEntities, entity_count}
use Rattle.block_entities.proofs.Local.{not_true}
use Rattle.block_entities.proofs.Places.{is_same_pos-Decides, index_of-position_of}
use Rattle.block_entities.proofs.Lists.{filter_map-same, filter_map-none, count_by-filter_map}

-- a position of the box is the one of a place only where it has that place
pub is_same_pos-place : (a : Area) (p : Pos) (i : ℕ) → is_world_box a ≡ true → holds a p ≡ true → i < volume a → Decides (is_same_pos p (position_of a i)) (index_of a p ≡ i)
is_same_pos-place a p i box held below =
    Decides-like (is_same_pos p (position_of a i))
    (λ e. ap (index_of a) e ∙ index_of-position_of a i box below)
    (λ e. sym (position_at_index a p held) ∙ ap (position_of a) e)
    (is_same_pos-Decides p (position_of a i))

-- what rising says of the first entity and of the others
pub record RisesFrom (a : Area) (least : ℕ) (e : Pos × EntityTags) (es : List (Pos × EntityTags)) : Type 0 where
  pub held : holds a e.0 ≡ true
  pub from : least ≤ index_of a e.0
  pub below : index_of a e.0 < volume a
  pub rest : is_rising_from a (index_of a e.0 + 1) es ≡ true

pub rises : (a : Area) (least : ℕ) (e : Pos × EntityTags) (es : List (Pos × EntityTags)) → is_rising_from a least (e ∷ es) ≡ true → RisesFrom a least e es
rises a least e es h =
    let two = and_both (holds a e.0 && nat_le least (index_of a e.0)) (is_rising_from a (index_of a e.0 + 1) es) h in
    let one = and_both (holds a e.0) (nat_le least (index_of a e.0)) two.0 in
    record { held = one.0; from = leb-true least (index_of a e.0) one.1; below = held_below a e.0 one.0; rest = two.1 }

-- a list rises from each place up to that of its first entity
higher : (a : Area) (least from : ℕ) (e : Pos × EntityTags) (es : List (Pos × EntityTags)) → RisesFrom a from e es → least ≤ index_of a e.0 → is_rising_from a least (e ∷ es) ≡ true
higher a least from e es r up = both_true (both_true r.held (le-leb least (index_of a e.0) up)) r.rest

entity_of-first : (e : Pos × EntityTags) (es : List (Pos × EntityTags)) (p : Pos) → is_same_pos e.0 p ≡ true → entity_of (e ∷ es) p ≡ Some e.1
entity_of-first e es p h = ap (λ (b : Bool). option_map (λ (f : Pos × EntityTags). f.1) (cond b (Some e) (find (λ f. is_same_pos f.0 p) es))) h

entity_of-later : (e : Pos × EntityTags) (es : List (Pos × EntityTags)) (p : Pos) → is_same_pos e.0 p ≡ false → entity_of (e ∷ es) p ≡ entity_of es p
entity_of-later e es p h = ap (λ (b : Bool). option_map (λ (f : Pos × EntityTags). f.1) (cond b (Some e) (find (λ f. is_same_pos f.0 p) es))) h

-- another place than the first entity's
entity_of-other : (a : Area) (e : Pos × EntityTags) (es : List (Pos × EntityTags)) (i : ℕ) → is_world_box a ≡ true → holds a e.0 ≡ true → i < volume a → (index_of a e.0 ≡ i → ⊥) → entity_of (e ∷ es) (position_of a i) ≡ entity_of es (position_of a i)
entity_of-other a e es i box held below other =
    entity_of-later e es (position_of a i) (not_true (is_same_pos e.0 (position_of a i)) (λ h. other ((is_same_pos-place a e.0 i box held below).0 h)))

-- no entity stands at a place below those from which the list rises
pub entity_of-below : (a : Area) (least i : ℕ) (es : List (Pos × EntityTags)) → is_world_box a ≡ true → is_rising_from a least es ≡ true → i < least → i < volume a → entity_of es (position_of a i) ≡ None
entity_of-below a least i [] box rising low below = refl
entity_of-below a least i (e ∷ es) box rising low below =
    let r = rises a least e es rising in
    let from = r.from in
    entity_of-other a e es i box r.held below (λ same. let at : index_of a e.0 ≡ i = same in omega (arith, at, from, low))
    ∙ entity_of-below a (index_of a e.0 + 1) i es box r.rest (omega (arith, from, low)) below

-- the entities at the places from one on, in order, are the list that rises from there
pub filter_map-entity_of : {B : Type 0} (a : Area) (h : ℕ → EntityTags → B) (n least : ℕ) (es : List (Pos × EntityTags)) → is_world_box a ≡ true → is_rising_from a least es ≡ true → least + n ≡ volume a
    → filter_map (λ i. option_map (h i) (entity_of es (position_of a i))) (range_with_len least n) ≡ map (λ e. h (index_of a e.0) e.1) es
filter_map-entity_of a h n least [] box rising end = filter_map-none (λ i. option_map (h i) (entity_of [] (position_of a i))) least n (λ i from to. refl)
filter_map-entity_of a h zero least (e ∷ es) box rising end =
    let r = rises a least e es rising in
    let from = r.from in let below = r.below in
    absurd (omega (arith, from, below, end))
filter_map-entity_of {B} a h (suc n) least (e ∷ es) box rising end =
    let r = rises a least e es rising in
    let F : List (Pos × EntityTags) → ℕ → Option B = λ fs i. option_map (h i) (entity_of fs (position_of a i)) in
    ⊎_elim
    (λ same.
    let at : least ≡ index_of a e.0 = same in
    let first : F (e ∷ es) least ≡ Some (h (index_of a e.0) e.1) =
    ap (option_map (h least)) (entity_of-first e es (position_of a least) ((is_same_pos-place a e.0 least box r.held (omega (arith, end))).1 (sym at)))
    ∙ ap (λ (i : ℕ). Some (h i e.1)) at in
    let others = filter_map-same (F (e ∷ es)) (F es) (least + 1) n (λ i from to. ap (option_map (h i)) (entity_of-other a e es i box r.held (omega (arith, to, end)) (λ other. let no : index_of a e.0 ≡ i = other in omega (arith, no, at, from)))) in
    let rest = filter_map-entity_of a h n (least + 1) es box (subst (λ (k : ℕ). is_rising_from a (k + 1) es ≡ true) (sym at) r.rest) (omega (arith, end)) in
    ap (λ (o : Option B). cons_option o (filter_map (F (e ∷ es)) (range_with_len (least + 1) n))) first
    ∙ ap (λ (xs : List B). h (index_of a e.0) e.1 ∷ xs) (others ∙ rest))
    (λ other.
    let from = r.from in
    let above : least + 1 ≤ index_of a e.0 = omega (arith, from, other) in
    let first : F (e ∷ es) least ≡ None =
    ap (option_map (h least)) (entity_of-below a (least + 1) least (e ∷ es) box (higher a (least + 1) least e es r above) (omega arith) (omega (arith, end))) in
    ap (λ (o : Option B). cons_option o (filter_map (F (e ∷ es)) (range_with_len (least + 1) n))) first
    ∙ filter_map-entity_of a h n (least + 1) (e ∷ es) box (higher a (least + 1) least e es r above) (omega (arith, end)))
    (cases_eq least (index_of a e.0))

-- ---- the world that a grid keeps

-- the entity in the content at a place
pub entity_of_content : (g : GridParts) (i : ℕ) → i < volume g.area → (get_or (world_of g).contents i air_content).entity ≡ entity_of g.entities (position_of g.area i)
entity_of_content g i below =
    ap (λ (c : BlockContent). c.entity) (get_or-map-range_with_len (content_of_cell g) 0 (volume g.area) i i air_content below (omega arith))

-- the world has as many blocks with an entity as the grid has entities
pub entity_count-world_of : (g : GridParts) → is_world_box g.area ≡ true → is_rising_from g.area 0 g.entities ≡ true → entity_count (world_of g) ≡ length g.entities
entity_count-world_of g box rising =
    let F : ℕ → Option EntityTags = λ i. option_map (λ e. e) (entity_of g.entities (position_of g.area i)) in
    count_by-filter_map (λ (c : BlockContent). is_some c.entity) (content_of_cell g) F (range_with_len 0 (volume g.area)) (λ i. is_some_same (entity_of g.entities (position_of g.area i)))
    ∙ ap length (filter_map-entity_of g.area (λ i e. e) (volume g.area) 0 g.entities box rising (omega arith))
    ∙ length-map g.entities (λ e. e.1)
  where
    is_some_same : (o : Option EntityTags) → is_some o ≡ is_some (option_map (λ (e : EntityTags). e) o)
    is_some_same (Some e) = refl
    is_some_same None = refl

found_good : (P : EntityTags → Type 0) (b : Bool) (e : Pos × EntityTags) (o : Option (Pos × EntityTags)) → P e.1 → IfSome (option_map (λ (f : Pos × EntityTags). f.1) o) P → IfSome (option_map (λ (f : Pos × EntityTags). f.1) (cond b (Some e) o)) P
found_good P true e o h k = h
found_good P false e o h k = k

IfSome-entity_of : (P : EntityTags → Type 0) (es : List (Pos × EntityTags)) (p : Pos) → AllByRecursion P (map (λ e. e.1) es) → IfSome (entity_of es p) P
IfSome-entity_of P [] p h = tt
IfSome-entity_of P (e ∷ es) p h = found_good P (is_same_pos e.0 p) e (find (λ f. is_same_pos f.0 p) es) h.0 (IfSome-entity_of P es p h.1)

-- where the grid's entities are good for files, so are the world's
pub AreFileEntities-world_of : (g : GridParts) → All IsFileEntity (map (λ e. e.1) g.entities) → AreFileEntities (world_of g)
AreFileEntities-world_of g h =
    All-map (λ (c : BlockContent). IfSome c.entity IsFileEntity) (content_of_cell g) (range_with_len 0 (volume g.area))
    (λ k d within. IfSome-entity_of IsFileEntity g.entities (position_of g.area (get_or (range_with_len 0 (volume g.area)) k d)) (recursion_from_All IsFileEntity (map (λ e. e.1) g.entities) h))

-- each entity of a grid stands in its box
pub each_held_rising : (a : Area) (least : ℕ) (es : List (Pos × EntityTags)) → is_rising_from a least es ≡ true → AllByRecursion (λ e. holds a e.0 ≡ true) es
each_held_rising a least [] rising = tt
each_held_rising a least (e ∷ es) rising =
    let r = rises a least e es rising in
    (r.held, each_held_rising a (index_of a e.0 + 1) es r.rest)
