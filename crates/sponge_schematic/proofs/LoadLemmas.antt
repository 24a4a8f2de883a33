-- The world that is put together from the parts.
use Rattle.std.proofs.Common.{◌≡◌, ℕ, zero, suc, ◌+◌, ◌^◌, ◌<◌, ◌≤◌, true, List, ◌∷◌, length, map, get_or, Option, None, Some, Result, Ok, Err, IfOk, All, refl, sym, ap, subst, ◌∙◌, arith}
use Rattle.std.specs.List.{range_with_len}
use Rattle.std.specs.Prelude.{option_map}
use Rattle.std.specs.Option.{ForSome}
use Rattle.edit_terms.specs.declared.pos.Pos.{Pos}
use Rattle.edit_terms.specs.Area.{Area, volume, position_of, is_world_box}
use Rattle.edit_terms.specs.Grid.{GridParts, IsGrid, is_numbered, is_rising_from, entity_of, world_of, content_of_cell}
use Rattle.edit_terms.specs.StateText.{air}
use Rattle.edit_terms.specs.World.{World, EntityTags, BlockContent}
use Rattle.nbt_tags.specs.declared.tag.Tag.{Tag, out-Tag}
use Rattle.nbt_tags.specs.declared.tag.Tag.TheOpen as layer
use Rattle.nbt_tags.specs.Spelling.{Layer}
use Rattle.nbt_tags.specs.WellFormed.{IsSound, within}
use Rattle.block_entities.specs.Gathering.{IsEntryList, items_in, items_of, entity_at, loose_of}
use Rattle.block_entities.specs.FileEntities.{IsEntry, IsFileEntity, AreFileEntities, entity_count}
use Rattle.sponge_schematic.specs.Carried.{CarriedTags}
use Rattle.sponge_schematic.specs.Read.{IsWritable}
use Rattle.sponge_schematic.specs.Schematic.{content_in, world_in, element_in, element_of}
use Rattle.sponge_schematic.specs.Rows.{IsGathered}

-- a list that is well formed counts fewer than 2^31 items, and its element type is at most 12
few_items : (levels : ℕ) (level : Layer) → IsSound (within (suc levels)) level → length (items_in level) < 2 ^ 31
unfolding within
few_items levels (layer.List element items) h = h.sound.count
few_items levels _ h = omega arith

known_element : (levels : ℕ) (level : Layer) → IsSound (within (suc levels)) level → element_in level ≤ 12
unfolding within
known_element levels (layer.List element items) h = h.known
known_element levels _ h = omega arith

pub list_element : (list : Tag) → IsEntryList list → element_of list ≤ 12
list_element list h = known_element 510 (out-Tag list) h.sound

pub list_count : (list : Tag) → IsEntryList list → length (items_of list) < 2 ^ 31
list_count list h = few_items 510 (out-Tag list) h.sound

-- what was gathered from a list
pub gathered_known : {X E : Type 0} (area : Area) (list : Tag) (entities : X → List (Pos × EntityTags)) (count : X → ℕ) (rest : X → List Tag) (r : Result X E) → IsEntryList list
    → ((g : X) → length (entities g) ≡ count g)
    → IfOk r (λ g. (index : ℕ) → index < volume area → entity_of (entities g) (position_of area index) ≡ entity_at area (items_of list) index)
    → IfOk r (λ g. is_rising_from area 0 (entities g) ≡ true)
    → IfOk r (λ g. rest g ≡ loose_of area (items_of list))
    → IfOk r (λ g. All IsFileEntity (map (λ e. e.1) (entities g)))
    → IfOk r (λ g. All IsEntry (rest g))
    → IfOk r (λ g. count g + length (rest g) ≤ length (items_of list))
    → IfOk r (λ g. IsGathered area (items_of list) (entities g) (rest g))
gathered_known area list entities count rest (Ok g) h counted given rising loose good sound few =
    record { given = given; rising = rising; rest = loose; good = good; sound = sound; few = omega (arith, few, counted g, list_count list h) }
gathered_known area list entities count rest (Err e) h counted given rising loose good sound few = tt

-- ---- the world

map-alike : {A : Type 0} (f g : ℕ → A) (least n : ℕ) → ((k : ℕ) → least ≤ k → k < least + n → f k ≡ g k) → map f (range_with_len least n) ≡ map g (range_with_len least n)
map-alike f g least zero h = refl
map-alike f g least (suc n) h =
    let others = map-alike f g (least + 1) n (λ k low high. h k (omega arith) (omega arith)) in
    let first = h least (omega arith) (omega arith) in
    λ i. first i ∷ others i

-- the world of a grid of the parts
pub world_of_parts : (g : GridParts) (entries : List Tag) → ((index : ℕ) → index < volume g.area → entity_of g.entities (position_of g.area index) ≡ entity_at g.area entries index)
    → world_of g ≡ world_in g.area g.kinds g.cells entries
world_of_parts g entries given =
    let same = map-alike (content_of_cell g) (content_in g.area g.kinds g.cells entries) 0 (volume g.area)
    (λ k low high. ap (λ (o : Option EntityTags). let c : BlockContent = record { state = get_or g.kinds (get_or g.cells k 0) air; entity = o } in c) (given k (omega arith))) in
    ap (λ (contents : List BlockContent). let w : World = record { area = g.area; contents = contents } in w) same

-- the world of a grid of the parts can be written again
pub writable_parts : (g h : GridParts) → h ≡ g → (carried : CarriedTags) (entries loose : List Tag) → carried.loose ≡ loose
    → ((p : GridParts) → All IsFileEntity (map (λ e. e.1) p.entities) → AreFileEntities (world_of p))
    → ((p : GridParts) → is_world_box p.area ≡ true → IsGrid p → entity_count (world_of p) ≡ length p.entities)
    → is_world_box g.area ≡ true → is_numbered g.area g.kinds g.cells ≡ true → IsGathered g.area entries g.entities loose → IsWritable carried (world_of h)
writable_parts g h same carried entries loose kept good count box numbered gathered =
    subst (λ (p : GridParts). IsWritable carried (world_of p)) (sym same)
    (record {
      entities = good g gathered.good;
      few = let n = count g box (record { numbered = numbered; rising = gathered.rising }) in omega (arith, n, ap length kept, gathered.few);
    })

-- the element type of a list that was looked at
pub element_known : (list : Option Tag) (element : Option ℕ) → element ≡ option_map element_of list → ForSome list IsEntryList → (byte : ℕ) → element ≡ Some byte → byte ≤ 12
element_known None element is h byte e = absurd (let q : None ≡ Some byte = sym is ∙ e in cc)
element_known (Some list) element is h byte e = let q : Some (element_of list) ≡ Some byte = sym is ∙ e in let r : element_of list ≡ byte = cc in subst (λ (b : ℕ). b ≤ 12) r (list_element list (h list refl))
