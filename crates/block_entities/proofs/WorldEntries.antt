-- The entries of a world's blocks.
use Rattle.std.proofs.Common.{◌≡◌, ℕ, ◌+◌, ◌-◌, ◌<◌, ◌≤◌, ◌^◌, true, List, [], ◌∷◌, ◌++◌, length, map, get_or, Some, None, Option, refl, sym, ap, ◌∙◌, subst, arith, ⊎_elim, append_assoc, take}
use Rattle.std.specs.Prelude.{option_map, IfSome}
use Rattle.std.specs.Option.{ForSome}
use Rattle.std.specs.List.{AllByRecursion}
use Rattle.std.proofs.lemmas.Bool.{cases_lt}
use Rattle.std.proofs.lemmas.List.{get_or_past, map-append, take_more, take_all, length-map}
use Rattle.std.proofs.lemmas.List.Elements.{All-get_or, All-from_recursion}
use Rattle.std.specs.declared.sync.Arc.{Arc}
use Rattle.std.specs.declared.alloc.Global.{Global}
use Rattle.std.specs.Arc.{arc_value}
use Rattle.edit_terms.specs.declared.pos.Pos.{Pos}
use Rattle.edit_terms.specs.Area.{Area, volume, holds, index_of, position_of, is_world_box}
use Rattle.edit_terms.specs.Clipboard.{relative_to}
use Rattle.edit_terms.specs.Grid.{GridParts, world_of, is_rising_from, entity_of}
use Rattle.edit_terms.specs.World.{EntityTags, BlockContent, World, air_content}
use Rattle.edit_terms.proofs.AreaLemmas.{block_at_place, position_at_index}
use Rattle.nbt_tags.specs.Kinds.{type_byte, layer_kind}
use Rattle.nbt_tags.specs.declared.tag.Tag.{Tag}
use Rattle.nbt_tags.specs.declared.tag.Tag.TheVariants as tags
use Rattle.nbt_tags.specs.declared.tag.Named.{Named}
use Rattle.nbt_tags.specs.Spelling.{Layer, max_depth}
use Rattle.nbt_tags.specs.WellFormed.{IsSoundTag, IsSound, IsSoundItem, IsWellFormedRow, AreCounted, within}
use Rattle.block_entities.specs.FileEntities.{IsEntry, IsFileEntity, AreFileEntities, entity_count, tags_of, pos_tag, origin, row_of_entity}
use Rattle.block_entities.specs.Gathering.{placed}
use Rattle.block_entities.specs.Spreading.{entry_of, entry_at, entries_of, list_of}
use Rattle.block_entities.proofs.Local.{local_fits}
use Rattle.block_entities.proofs.Rows.{IsSoundRow-exchange}
use Rattle.block_entities.proofs.GoodEntities.{pos_tag-sound}
use Rattle.block_entities.proofs.Lists.{filter_map-same, each-filter_map}
use Rattle.block_entities.proofs.GridEntities.{entity_count-world_of, each_held_rising, entity_of_content, filter_map-entity_of}

-- the entries of a grid's world are those of the grid's entities
pub entries_of-world_of : (g : GridParts) → is_world_box g.area ≡ true → is_rising_from g.area 0 g.entities ≡ true → entries_of (world_of g) ≡ map (λ e. entry_of g.area (index_of g.area e.0) e.1) g.entities
entries_of-world_of g box rising =
    filter_map-same (entry_at (world_of g)) (λ i. option_map (entry_of g.area i) (entity_of g.entities (position_of g.area i))) 0 (volume g.area)
    (λ i from to. ap (option_map (entry_of g.area i)) (entity_of_content g i (omega (arith, to))))
    ∙ filter_map-entity_of g.area (entry_of g.area) (volume g.area) 0 g.entities box rising (omega arith)

compound-entry : (row : List Named) → IsWellFormedRow 3 row → IsEntry (tags.Compound row)
unfolding within
compound-entry row h = record {
  type = ap (λ (level : Layer). type_byte (layer_kind level)) (tags.outs-Compound row);
  fits = subst (IsSound (within (max_depth - 2))) (sym (tags.outs-Compound row)) h;
}

-- the entry of an entity that is good for files is well formed
pub entry_of-sound : (a : Area) (i : ℕ) (e : EntityTags) → is_world_box a ≡ true → i < volume a → IsFileEntity e → IsEntry (entry_of a i e)
entry_of-sound a i e box below good =
    let local : Pos = relative_to a.least (position_of a i) in
    let fits = local_fits a (position_of a i) box (block_at_place a i box below).held in
    compound-entry (row_of_entity e local)
    (IsSoundRow-exchange (IsSoundTag (max_depth - 3)) (tags_of e.before) (tags_of e.after) (pos_tag origin) (pos_tag local) refl (pos_tag-sound local fits) good.sound)

there : (a : Area) (i : ℕ) (o : Option EntityTags) → is_world_box a ≡ true → i < volume a → IfSome o IsFileEntity → IfSome (option_map (entry_of a i) o) IsEntry
there a i (Some e) box below good = entry_of-sound a i e box below good
there a i None box below good = tt

pub content_good : (w : World) (i : ℕ) → AreFileEntities w → IfSome (get_or w.contents i air_content).entity IsFileEntity
content_good w i good =
    let P : BlockContent → Type 0 = λ c. IfSome c.entity IsFileEntity in
    ⊎_elim
    (λ inside. All-get_or P w.contents i air_content inside good)
    (λ past. subst P (sym (get_or_past w.contents i air_content past)) tt)
    (cases_lt i (length w.contents))

-- the entries of a world whose entities are good for files are well formed
pub entries_of-sound : (w : World) → is_world_box w.area ≡ true → AreFileEntities w → AllByRecursion IsEntry (entries_of w)
entries_of-sound w box good =
    each-filter_map IsEntry (entry_at w) 0 (volume w.area)
    (λ i from to. there w.area i (get_or w.contents i air_content).entity box (omega (arith, to)) (content_good w i good))

list-sound : (element : ℕ) (items : List Tag) → element ≤ 12 → AreCounted (IsSoundItem (IsSoundTag (max_depth - 2)) element) items → IsSoundTag (max_depth - 1) (tags.List element items)
unfolding within
list-sound element items known sound =
    subst (IsSound (within (max_depth - 1))) (sym (tags.outs-List element items)) (record { known = known; sound = sound })

-- a list of few entries is well formed
pub list_of-sound : (element : Option ℕ) (entries : List Tag) → ForSome element (λ byte. byte ≤ 12) → length entries < 2 ^ 31 → AllByRecursion IsEntry entries → IfSome (list_of element entries) (IsSoundTag (max_depth - 1))
list_of-sound None [] known few each = tt
list_of-sound (Some element) [] known few each = list-sound element [] (known element refl) (record { count = few; each = each })
list_of-sound None (t ∷ ts) known few each = list-sound 10 (t ∷ ts) (omega arith) (record { count = few; each = each })
list_of-sound (Some element) (t ∷ ts) known few each = list-sound 10 (t ∷ ts) (omega arith) (record { count = few; each = each })

-- an entry from its parts
pub entry_of-built : (a : Area) (p local : Pos) (e : EntityTags) (before pushed after row : List Named) (pos : Named) → holds a p ≡ true
    → before ≡ tags_of e.before → local ≡ relative_to a.least p → pos ≡ pos_tag local → pushed ≡ before ++ pos ∷ [] → after ≡ tags_of e.after → row ≡ pushed ++ after
    → tags.Compound row ≡ entry_of a (index_of a p) e
entry_of-built a p local e before pushed after row pos held is_before is_local is_pos is_pushed is_after is_row =
    let at : local ≡ relative_to a.least (position_of a (index_of a p)) = is_local ∙ ap (relative_to a.least) (sym (position_at_index a p held)) in
    let whole : row ≡ before ++ pos ∷ after = is_row ∙ ap (λ (xs : List Named). xs ++ after) is_pushed ∙ append_assoc before (pos ∷ []) after in
    let parts : before ++ pos ∷ after ≡ row_of_entity e (relative_to a.least (position_of a (index_of a p))) =
    ap (λ (xs : List Named). xs ++ pos ∷ after) is_before
    ∙ ap (λ (n : Named). tags_of e.before ++ n ∷ after) (is_pos ∙ ap pos_tag at)
    ∙ ap (λ (xs : List Named). tags_of e.before ++ pos_tag (relative_to a.least (position_of a (index_of a p))) ∷ xs) is_after in
    ap tags.Compound (whole ∙ parts)

-- ---- one entity more

each_shown : {X Y : Type 0} (P : Y → Type 0) (f : X → Y) (xs : List X) → AllByRecursion P (map f xs) → AllByRecursion (λ x. P (f x)) xs
each_shown P f [] h = tt
each_shown P f (x ∷ xs) h = (h.0, each_shown P f xs h.1)

-- each entity of a list that rises stands in the box
pub held_at : (a : Area) (list : List (Pos × Arc EntityTags Global)) (n : ℕ) (e : Pos × Arc EntityTags Global) → is_rising_from a 0 (placed list) ≡ true → n < length list → e ≡ get_or list n e → holds a e.0 ≡ true
held_at a list n e rising within is =
    let P : Pos × EntityTags → Type 0 = λ f. holds a f.0 ≡ true in
    let shown : Pos × Arc EntityTags Global → Pos × EntityTags = λ f. (f.0, arc_value f.1) in
    let each = All-from_recursion (λ f. P (shown f)) list (each_shown P shown list (each_held_rising a 0 (placed list) rising)) in
    subst (λ (f : Pos × Arc EntityTags Global). holds a f.0 ≡ true) (sym is) (All-get_or (λ f. P (shown f)) list n e within each)

pub entries-take_more : (a : Area) (list : List (Pos × Arc EntityTags Global)) (n : ℕ) (e : Pos × Arc EntityTags Global) → n < length list → e ≡ get_or list n e
    → map (λ f. entry_of a (index_of a f.0) f.1) (placed (take (n + 1) list)) ≡ map (λ f. entry_of a (index_of a f.0) f.1) (placed (take n list)) ++ entry_of a (index_of a e.0) (arc_value e.1) ∷ []
entries-take_more a list n e within is =
    let F : Pos × EntityTags → Tag = λ f. entry_of a (index_of a f.0) f.1 in
    let shown : Pos × Arc EntityTags Global → Pos × EntityTags = λ f. (f.0, arc_value f.1) in
    ap (λ (es : List (Pos × Arc EntityTags Global)). map F (map shown es)) (take_more list n e within ∙ ap (λ (f : Pos × Arc EntityTags Global). take n list ++ f ∷ []) (sym is))
    ∙ ap (map F) (map-append shown (take n list) (e ∷ []))
    ∙ map-append F (map shown (take n list)) (shown e ∷ [])

pub entries-step : (a : Area) (start old new : List Tag) (list : List (Pos × Arc EntityTags Global)) (n : ℕ) (e : Pos × Arc EntityTags Global) (tag : Tag) → n < length list → e ≡ get_or list n e
    → old ≡ start ++ map (λ f. entry_of a (index_of a f.0) f.1) (placed (take n list)) → tag ≡ entry_of a (index_of a e.0) (arc_value e.1) → new ≡ old ++ tag ∷ []
    → new ≡ start ++ map (λ f. entry_of a (index_of a f.0) f.1) (placed (take (n + 1) list))
entries-step a start old new list n e tag within is before is_tag pushed =
    let done : List Tag = map (λ f. entry_of a (index_of a f.0) f.1) (placed (take n list)) in
    pushed ∙ ap (λ (ts : List Tag). ts ++ tag ∷ []) before ∙ append_assoc start done (tag ∷ [])
    ∙ ap (λ (t : Tag). start ++ (done ++ t ∷ [])) is_tag
    ∙ ap (λ (ts : List Tag). start ++ ts) (sym (entries-take_more a list n e within is))

pub entries-end : (a : Area) (start old : List Tag) (list : List (Pos × Arc EntityTags Global)) (n : ℕ) → length list ≤ n
    → old ≡ start ++ map (λ f. entry_of a (index_of a f.0) f.1) (placed (take n list)) → old ≡ start ++ map (λ f. entry_of a (index_of a f.0) f.1) (placed list)
entries-end a start old list n past h = h ∙ ap (λ (es : List (Pos × Arc EntityTags Global)). start ++ map (λ f. entry_of a (index_of a f.0) f.1) (placed es)) (take_all n list past)

-- the entries of a grid's entities and the loose ones, where both were put behind nothing
pub entries-whole : (g : GridParts) (a : Area) (list : List (Pos × Arc EntityTags Global)) (loose none first second : List Tag) → is_world_box g.area ≡ true → is_rising_from g.area 0 g.entities ≡ true
    → a ≡ g.area → placed list ≡ g.entities → none ≡ [] → first ≡ none ++ map (λ e. entry_of a (index_of a e.0) e.1) (placed list) → second ≡ first ++ loose
    → second ≡ entries_of (world_of g) ++ loose
entries-whole g a list loose none first second box rising is_area is_list is_none is_first is_second =
    is_second
    ∙ ap (λ (ts : List Tag). ts ++ loose)
    (is_first ∙ ap (λ (ts : List Tag). ts ++ map (λ e. entry_of a (index_of a e.0) e.1) (placed list)) is_none
    ∙ ap (λ (b : Area). map (λ e. entry_of b (index_of b e.0) e.1) (placed list)) is_area
    ∙ ap (map (λ (e : Pos × EntityTags). entry_of g.area (index_of g.area e.0) e.1)) is_list
    ∙ sym (entries_of-world_of g box rising))

pub length-entries_of-world_of : (g : GridParts) → is_world_box g.area ≡ true → is_rising_from g.area 0 g.entities ≡ true → length (entries_of (world_of g)) ≡ entity_count (world_of g)
length-entries_of-world_of g box rising =
    ap length (entries_of-world_of g box rising) ∙ length-map g.entities (λ e. entry_of g.area (index_of g.area e.0) e.1) ∙ sym (entity_count-world_of g box rising)
