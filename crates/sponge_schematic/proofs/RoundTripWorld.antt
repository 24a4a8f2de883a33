-- The world and the tags that are written are read again.
use Rattle.std.proofs.Common.{◌≡◌, ℕ, ◌<◌, Bool, true, false, not, cond, List, [], ◌∷◌, ◌++◌, length, map, get_or, Option, Some, None, Result, Ok, Err, All, refl, sym, ap, ◌∙◌, arith, ℤ, pos}
use Rattle.std.specs.Prelude.{codes, find, option_map, MatchOption}
use Rattle.std.specs.List.{AllByRecursion, range_with_len}
use Rattle.std.specs.Cmp.Lexicographic.{bytes_decides}
use Rattle.std.proofs.lemmas.List.{length-map, get_or-map}
use Rattle.block_entities.proofs.Local.{not_true}
use Rattle.std.proofs.lemmas.List.Elements.{All-nil, All-cons, All-head, All-tail, All-filter, All-map, All-same, filter_passes, recursion_from_All}
use Rattle.std.proofs.lemmas.List.FromFn.{fill_by_all}
use Rattle.edit_terms.specs.Area.{Area, volume, is_world_box}
use Rattle.edit_terms.specs.StateText.{State, IsState, air}
use Rattle.edit_terms.specs.World.{World, IsWorld, BlockContent, EntityTags, air_content}
use Rattle.edit_terms.specs.Same.{same_state}
use Rattle.edit_terms.proofs.AreaLemmas.{limits}
use Rattle.block_palette.specs.Numbering.{distinct, numbers}
use Rattle.nbt_tags.specs.declared.tag.Tag.{Tag, out-Tag}
use Rattle.nbt_tags.specs.declared.tag.Tag.TheVariants as tags
use Rattle.nbt_tags.specs.declared.tag.Named.{Named}
use Rattle.nbt_tags.specs.Spelling.{name_of, tag_of}
use Rattle.block_entities.specs.Gathering.{entity_at, loose_of, is_entry_list, items_of}
use Rattle.block_entities.specs.Spreading.{block_entities, entries_of}
use Rattle.block_entities.proofs.Again.{entity_at-entries_of, loose_of-entries_of, list_of-items}
use Rattle.sponge_schematic.specs.declared.fault.Field.TheVariants as fields
use Rattle.sponge_schematic.specs.declared.fault.WorldFault.{WorldFault}
use Rattle.sponge_schematic.specs.declared.fault.WorldFault.TheVariants as faults
use Rattle.sponge_schematic.specs.Carried.{CarriedTags}
use Rattle.sponge_schematic.specs.Fields.{◌>>=◌, has_name, tag_named, required, row_in, bytes_in, field_name}
use Rattle.sponge_schematic.specs.Header.{data_version_of, area_of}
use Rattle.sponge_schematic.specs.Palette.{Entries, entries_from, palette_of}
use Rattle.sponge_schematic.specs.BlockData.{cells_in, cells_of}
use Rattle.sponge_schematic.specs.Schematic.{entry_list, entries_in, element_of, is_own_name, others_of, content_in, world_in, Parts, parts_of, loaded_in}
use Rattle.sponge_schematic.specs.File.{states_of, states_once, block_data, entry_tags, own_tags, file_row, entity_tags}
use Rattle.sponge_schematic.specs.RoundTrip.{IsFileWorld, IsBeside, read_again}
use Rattle.sponge_schematic.proofs.RoundTripHeader.{data_version_again, area_again}
use Rattle.sponge_schematic.proofs.RoundTripBlocks.{entries_again, block_data_again, state_of_number}

-- ---- the tags of the blocks

palette_found : (row : List Named) (entries : List Named) (palette : Entries) → required fields.Palette row ≡ Ok (tags.Compound entries) → entries_from 0 entries ≡ Ok palette → palette_of row ≡ Ok palette
unfolding palette_of
palette_found row entries palette there read =
    ap (λ (r : Result Tag WorldFault). r >>= λ (tag : Tag). row_in fields.Palette (out-Tag tag) >>= λ (es : List Named). entries_from 0 es) there
    ∙ ap (λ (r : Result (List Named) WorldFault). r >>= λ (es : List Named). entries_from 0 es) (ap (row_in fields.Palette) (tags.outs-Compound entries))
    ∙ read

palette_again : (carried : CarriedTags) (w : World) → All IsState (states_once w) → palette_of (file_row carried w) ≡ Ok (record { numbers = map (λ n. pos n) (range_with_len 0 (length (states_once w))); states = states_once w })
unfolding file_row own_tags
palette_again carried w states = palette_found (file_row carried w) (entry_tags 0 (states_once w)) _ refl (entries_again 0 (states_once w) states)

cells_found : (zs : List ℤ) (size : ℕ) (row : List Named) (bytes cells : List ℕ) → required fields.BlockData row ≡ Ok (tags.ByteArray bytes) → cells_in zs size bytes ≡ Ok cells → cells_of zs size row ≡ Ok cells
unfolding cells_of
cells_found zs size row bytes cells there read =
    ap (λ (r : Result Tag WorldFault). r >>= λ (tag : Tag). bytes_in fields.BlockData (out-Tag tag) >>= λ (bs : List ℕ). cells_in zs size bs) there
    ∙ ap (λ (r : Result (List ℕ) WorldFault). r >>= λ (bs : List ℕ). cells_in zs size bs) (ap (bytes_in fields.BlockData) (tags.outs-ByteArray bytes))
    ∙ read

length-states_of : (w : World) → IsWorld w → length (states_of w) ≡ volume w.area
length-states_of w whole = length-map w.contents (λ c. c.state) ∙ whole

cells_again : (carried : CarriedTags) (w : World) → is_world_box w.area ≡ true → IsWorld w
    → cells_of (map (λ n. pos n) (range_with_len 0 (length (states_once w)))) (volume w.area) (file_row carried w) ≡ Ok (numbers same_state (states_of w))
unfolding file_row own_tags
cells_again carried w box whole =
    cells_found _ (volume w.area) (file_row carried w) (block_data w) (numbers same_state (states_of w)) refl
    (block_data_again (volume w.area) (states_of w) (length-states_of w whole) (limits w.area box).small)

-- ---- the list of block entities

-- none of the other tags has this name of the writer's own
no_other : (name : List ℕ) (others : List Named) → is_own_name name ≡ true → AllByRecursion (λ tag. not (is_own_name (name_of tag)) ≡ true) others → find (has_name name) others ≡ None
no_other name [] own h = refl
no_other name (tag ∷ others) own h =
    let other : has_name name tag ≡ false = not_true (has_name name tag) (λ same. let e : name_of tag ≡ name = (bytes_decides (name_of tag) name).0 same in own_twice (is_own_name (name_of tag)) (ap is_own_name e ∙ own) h.0) in
    ap (λ (b : Bool). cond b (Some tag) (find (has_name name) others)) other ∙ no_other name others own h.1
  where
    own_twice : (b : Bool) → b ≡ true → not b ≡ true → ⊥
    own_twice true is isnt = cc
    own_twice false is isnt = cc

each_other : (others : List Named) → others_of others ≡ others → AllByRecursion (λ tag. not (is_own_name (name_of tag)) ≡ true) others
each_other others free =
    let p : Named → Bool = λ tag. not (is_own_name (name_of tag)) in
    recursion_from_All (λ tag. p tag ≡ true) others (All-same (λ tag. p tag ≡ true) others (others_of others) (sym free) (filter_passes p others))

list_found : (o : Option Tag) (others : List Named) → find (has_name (codes "BlockEntities")) others ≡ None → MatchOption o (Unit {0}) (λ tag. is_entry_list tag ≡ true)
    → entry_list (tag_named (codes "BlockEntities") (entity_tags o ++ others)) ≡ Ok o
list_found None others none h = ap (λ (found : Option Named). entry_list (option_map tag_of found)) none
list_found (Some tag) others none h = ap (λ (b : Bool). cond b (Ok (Some tag)) (Err (faults.WrongType fields.BlockEntities))) h

is_list : (P : Type 0) (Q : Tag → Type 0) (o : Option Tag) → MatchOption o P (λ tag. (is_entry_list tag ≡ true) × Q tag) → MatchOption o (Unit {0}) (λ tag. is_entry_list tag ≡ true)
is_list P Q None h = tt
is_list P Q (Some tag) h = h.0

list_again : (carried : CarriedTags) (w : World) → others_of carried.others ≡ carried.others
    → entry_list (tag_named (field_name fields.BlockEntities) (file_row carried w)) ≡ Ok (block_entities w carried.loose carried.element)
unfolding file_row own_tags
list_again carried w free =
    let entries = entries_of w ++ carried.loose in
    list_found (block_entities w carried.loose carried.element) carried.others
    (no_other (codes "BlockEntities") carried.others refl (each_other carried.others free))
    (is_list (entries ≡ []) (λ tag. items_of tag ≡ entries) (block_entities w carried.loose carried.element) (list_of-items carried.element entries))

-- the entries of the list, if one is written
entries_again_in : (o : Option Tag) (entries : List Tag) → MatchOption o (entries ≡ []) (λ tag. (is_entry_list tag ≡ true) × (items_of tag ≡ entries)) → entries_in o ≡ entries
entries_again_in None entries h = sym h
entries_again_in (Some tag) entries h = h.1

-- ---- the parts

-- what is read of a world and of tags
abbrev parts_again : CarriedTags → World → Parts
parts_again carried w = record {
  data_version = carried.data_version;
  area = w.area;
  states = states_once w;
  cells = numbers same_state (states_of w);
  list = block_entities w carried.loose carried.element;
}

distinct_have : (P : State → Type 0) (xs : List State) → All P xs → All P (distinct same_state xs)
unfolding distinct
distinct_have P [] h = All-nil P
distinct_have P (x ∷ xs) h = All-cons P x _ (All-head P x xs h) (All-filter (λ y. not (same_state x y)) P (distinct same_state xs) (distinct_have P xs (All-tail P x xs h)))

all_once : (w : World) → All (λ c. IsState c.state) w.contents → All IsState (states_once w)
all_once w states = distinct_have IsState (states_of w) (All-map IsState (λ (c : BlockContent). c.state) w.contents states)

parts_found : (row : List Named) (version : ℤ) (area : Area) (palette : Entries) (cells : List ℕ) (list : Option Tag)
    → data_version_of row ≡ Ok version → area_of row ≡ Ok area → palette_of row ≡ Ok palette → cells_of palette.numbers (volume area) row ≡ Ok cells → entry_list (tag_named (field_name fields.BlockEntities) row) ≡ Ok list
    → parts_of row ≡ Ok (record { data_version = version; area = area; states = palette.states; cells = cells; list = list })
unfolding parts_of
parts_found row version area palette cells list v a p c l =
    ap (λ (r : Result ℤ WorldFault). r >>= λ (data_version : ℤ). area_of row >>= λ (area' : Area). palette_of row >>= λ (palette' : Entries). cells_of palette'.numbers (volume area') row >>= λ (cells' : List ℕ). entry_list (tag_named (field_name fields.BlockEntities) row) >>= λ (list' : Option Tag). Ok (record { data_version = data_version; area = area'; states = palette'.states; cells = cells'; list = list' })) v
    ∙ ap (λ (r : Result Area WorldFault). r >>= λ (area' : Area). palette_of row >>= λ (palette' : Entries). cells_of palette'.numbers (volume area') row >>= λ (cells' : List ℕ). entry_list (tag_named (field_name fields.BlockEntities) row) >>= λ (list' : Option Tag). Ok (record { data_version = version; area = area'; states = palette'.states; cells = cells'; list = list' })) a
    ∙ ap (λ (r : Result Entries WorldFault). r >>= λ (palette' : Entries). cells_of palette'.numbers (volume area) row >>= λ (cells' : List ℕ). entry_list (tag_named (field_name fields.BlockEntities) row) >>= λ (list' : Option Tag). Ok (record { data_version = version; area = area; states = palette'.states; cells = cells'; list = list' })) p
    ∙ ap (λ (r : Result (List ℕ) WorldFault). r >>= λ (cells' : List ℕ). entry_list (tag_named (field_name fields.BlockEntities) row) >>= λ (list' : Option Tag). Ok (record { data_version = version; area = area; states = palette.states; cells = cells'; list = list' })) c
    ∙ ap (λ (r : Result (Option Tag) WorldFault). r >>= λ (list' : Option Tag). Ok (record { data_version = version; area = area; states = palette.states; cells = cells; list = list' })) l

pub parts_of-file_row : (carried : CarriedTags) (w : World) → IsFileWorld w → IsBeside w.area carried → parts_of (file_row carried w) ≡ Ok (parts_again carried w)
parts_of-file_row carried w held beside =
    parts_found (file_row carried w) carried.data_version w.area (record { numbers = map (λ n. pos n) (range_with_len 0 (length (states_once w))); states = states_once w }) (numbers same_state (states_of w)) (block_entities w carried.loose carried.element)
    (data_version_again carried w) (area_again carried w held.box) (palette_again carried w (all_once w held.states)) (cells_again carried w held.box held.whole) (list_again carried w beside.others)

-- ---- the world

content_same : (c : BlockContent) (s : State) (e : Option EntityTags) → s ≡ c.state → e ≡ c.entity → c ≡ record { state = s; entity = e }
content_same c s e is_state is_entity = λ i. record { state = sym is_state i; entity = sym is_entity i }

pub world_again : (carried : CarriedTags) (w : World) → IsFileWorld w → IsBeside w.area carried
    → world_in w.area (states_once w) (numbers same_state (states_of w)) (entries_in (block_entities w carried.loose carried.element)) ≡ w
world_again carried w held beside =
    let a = w.area in
    let entries = entries_of w ++ carried.loose in
    let again = entries_again_in (block_entities w carried.loose carried.element) entries (list_of-items carried.element entries) in
    let whole : length w.contents ≡ volume a = held.whole in
    let each : (k : ℕ) → k < volume a → get_or w.contents k air_content ≡ content_in a (states_once w) (numbers same_state (states_of w)) entries k = λ k lt.
    let inside : k < length w.contents = omega (arith, whole, lt) in
    let state : get_or (states_once w) (get_or (numbers same_state (states_of w)) k 0) air ≡ (get_or w.contents k air_content).state =
    state_of_number (states_of w) k air (let len = length-states_of w held.whole in omega (arith, len, lt)) ∙ get_or-map (λ (c : BlockContent). c.state) w.contents k air_content air inside in
    content_same (get_or w.contents k air_content) (get_or (states_once w) (get_or (numbers same_state (states_of w)) k 0) air) (entity_at a entries k) state
    (entity_at-entries_of w carried.loose k held.box held.entities beside.loose lt) in
    let contents : w.contents ≡ map (content_in a (states_once w) (numbers same_state (states_of w)) entries) (range_with_len 0 (volume a)) = fill_by_all (content_in a (states_once w) (numbers same_state (states_of w)) entries) w.contents (volume a) air_content whole each in
    ap (world_in a (states_once w) (numbers same_state (states_of w))) again
    ∙ λ i. record { area = a; contents = sym contents i }

-- ---- the tags beside the world

others_found : (o : Option Tag) (others : List Named) → others_of (entity_tags o ++ others) ≡ others_of others
others_found None others = refl
others_found (Some tag) others = refl

others_of-file_row : (carried : CarriedTags) (w : World) → others_of carried.others ≡ carried.others → others_of (file_row carried w) ≡ carried.others
unfolding file_row own_tags
others_of-file_row carried w free = others_found (block_entities w carried.loose carried.element) carried.others ∙ free

pub loaded_again : (carried : CarriedTags) (w : World) → IsFileWorld w → IsBeside w.area carried → loaded_in (parts_again carried w) (file_row carried w) ≡ record { carried = read_again carried w; world = w }
loaded_again carried w held beside =
    let list = block_entities w carried.loose carried.element in
    let entries = entries_of w ++ carried.loose in
    let loose : loose_of w.area (entries_in list) ≡ carried.loose =
    ap (loose_of w.area) (entries_again_in list entries (list_of-items carried.element entries)) ∙ loose_of-entries_of w carried.loose held.box held.entities beside.loose in
    let others = others_of-file_row carried w beside.others in
    let world = world_again carried w held beside in
    λ i. record { carried = record { data_version = carried.data_version; element = option_map element_of list; loose = loose i; others = others i }; world = world i }
