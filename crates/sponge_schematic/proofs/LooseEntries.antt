-- A list of a root has no more items than the file has bytes, since each item takes at least one.
use Rattle.std.proofs.Common.{◌≡◌, ℕ, zero, suc, ◌+◌, ◌<◌, ◌≤◌, Bool, true, false, cond, List, [], ◌∷◌, ◌++◌, length, Option, Some, None, Result, Ok, Err, refl, ap, subst, ◌∙◌, arith}
use Rattle.std.specs.Prelude.{find, option_map, is_none, IfOk}
use Rattle.std.proofs.lemmas.List.{length-append}
use Rattle.std.proofs.lemmas.List.Sums.{length-filter, count_by-le-length}
use Rattle.nbt_tags.specs.declared.tag.Tag.{Tag, out-Tag}
use Rattle.nbt_tags.specs.declared.tag.Tag.TheOpen as layer
use Rattle.nbt_tags.specs.declared.tag.Named.{Named}
use Rattle.nbt_tags.specs.declared.flaw.Flaw.{Flaw}
use Rattle.block_entities.specs.Entry.{place_of}
use Rattle.nbt_tags.specs.Reading.{decoded, with_places, whole_root}
use Rattle.nbt_tags.proofs.TreeReads.{whole_root-sound}
use Rattle.edit_terms.specs.Area.{volume}
use Rattle.block_entities.specs.Gathering.{items_in, is_entry_list, loose_of}
use Rattle.sponge_schematic.specs.declared.fault.Field.TheVariants as fields
use Rattle.sponge_schematic.specs.declared.fault.WorldFault.{WorldFault}
use Rattle.sponge_schematic.specs.declared.fault.WorldFault.TheVariants as faults
use Rattle.sponge_schematic.specs.declared.loaded.World.{World}
use Rattle.sponge_schematic.specs.Answers.{Gives}
use Rattle.sponge_schematic.specs.Read.{loaded_of}
use Rattle.sponge_schematic.specs.Carried.{Loaded}
use Rattle.sponge_schematic.specs.Fields.{◌>>=◌, field_name, has_name, tag_named}
use Rattle.sponge_schematic.specs.Header.{data_version_of, area_of}
use Rattle.sponge_schematic.specs.Palette.{palette_of}
use Rattle.sponge_schematic.specs.BlockData.{cells_of}
use Rattle.sponge_schematic.specs.Schematic.{Parts, parts_of, entry_list, entries_in, is_compressed, from_nbt, root_row, schematic_row, schematic_of}
use Rattle.sponge_schematic.proofs.RootLemmas.{compound_root}
use Rattle.nbt_tags.specs.Spelling.{Layer, Joins, IsEach, IsEntry, IsItem, IsPayload, IsLayer, nesting, Spells, tag_of}

-- the two parts are as long as the whole
joined_length : {P Q : List ℕ → Type 0} (bytes : List ℕ) (h : Joins P Q bytes) → length bytes ≡ length h.front + length h.back
joined_length bytes h = ap (λ (bs : List ℕ). length bs) h.whole ∙ length-append h.front h.back

-- a payload takes at least a byte
layer_some : (levels : ℕ) (level : Layer) (bytes : List ℕ) → IsLayer (nesting levels) level bytes → 1 ≤ length bytes
unfolding nesting
layer_some levels (layer.Byte z) bytes h = omega (arith, h.size)
layer_some levels (layer.Short z) bytes h = omega (arith, h.size)
layer_some levels (layer.Int z) bytes h = omega (arith, h.size)
layer_some levels (layer.Long z) bytes h = omega (arith, h.size)
layer_some levels (layer.Float n) bytes h = omega (arith, h.size)
layer_some levels (layer.Double n) bytes h = omega (arith, h.size)
layer_some levels (layer.ByteArray items) bytes h = omega (arith, joined_length bytes h, h.first.size)
layer_some levels (layer.Str text) bytes h = omega (arith, joined_length bytes h, h.first.size)
layer_some zero (layer.List element items) bytes h = absurd h
layer_some (suc levels) (layer.List element []) bytes h = omega (arith, joined_length bytes h.1, ap (λ (bs : List ℕ). length bs) h.1.first)
layer_some (suc levels) (layer.List element (t ∷ ts)) bytes h = omega (arith, joined_length bytes h, ap (λ (bs : List ℕ). length bs) h.first)
layer_some zero (layer.Compound row) bytes h = absurd h
layer_some (suc levels) (layer.Compound row) bytes h = omega (arith, joined_length bytes h, ap (λ (bs : List ℕ). length bs) h.second)
layer_some levels (layer.IntArray items) bytes h = omega (arith, joined_length bytes h, h.first.size)
layer_some levels (layer.LongArray items) bytes h = omega (arith, joined_length bytes h, h.first.size)

-- there are no more parts than bytes
each_few : (levels element : ℕ) (items : List Tag) (bytes : List ℕ) → IsEach (IsItem (IsPayload levels) element) items bytes → length items ≤ length bytes
each_few levels element [] bytes h = omega arith
each_few levels element (t ∷ ts) bytes h =
    let first = layer_some levels (out-Tag t) h.front h.first.payload in
    let others = each_few levels element ts h.back h.second in
    omega (arith, first, others, joined_length bytes h)

-- a list has no more items than bytes
items_few : (levels : ℕ) (level : Layer) (bytes : List ℕ) → IsLayer (nesting (suc levels)) level bytes → length (items_in level) ≤ length bytes
unfolding nesting
items_few levels (layer.List element []) bytes h = omega arith
items_few levels (layer.List element (t ∷ ts)) bytes h =
    omega (arith, joined_length bytes h, joined_length h.back h.second, each_few levels element (t ∷ ts) h.second.back h.second.second)
items_few levels _ bytes h = omega arith

-- ---- the tag of a row

-- where a tag is spelled in bytes
record IsInside (levels : ℕ) (tag : Tag) (bytes : List ℕ) : Type 0 where
  part : List ℕ
  spelled : IsPayload levels tag part
  within : length part ≤ length bytes

found_inside : (levels : ℕ) (test : Named → Bool) (row : List Named) (bytes : List ℕ) (entry : Named) → IsEach (IsEntry (IsPayload levels)) row bytes → find test row ≡ Some entry → IsInside levels (tag_of entry) bytes
found_inside levels test [] bytes entry h found = absurd cc
found_inside levels test (x ∷ xs) bytes entry h found = by_test (test x) found (found_inside levels test xs h.back entry h.second)
  where
    by_test : (b : Bool) → cond b (Some x) (find test xs) ≡ Some entry → (find test xs ≡ Some entry → IsInside levels (tag_of entry) h.back) → IsInside levels (tag_of entry) bytes
    by_test true is later =
        let same : x ≡ entry = cc in
        let first = h.first in
        record {
          part = first.second.back;
          spelled = subst (λ (e : Named). IsPayload levels (tag_of e) first.second.back) same first.second.second;
          within = omega (arith, joined_length bytes h, joined_length h.front first, joined_length first.back first.second);
        }
    by_test false is later =
        let rest = later is in
        record { part = rest.part; spelled = rest.spelled; within = omega (arith, rest.within, joined_length bytes h) }

-- a compound's row in a layer
row_inside : (levels : ℕ) (row : List Named) (bytes : List ℕ) → IsLayer (nesting (suc levels)) (layer.Compound row) bytes → (part : List ℕ) × (IsEach (IsEntry (IsPayload levels)) row part) × (length part ≤ length bytes)
unfolding nesting
row_inside levels row bytes h = (h.front, h.first.entries, omega (arith, joined_length bytes h))

nothing_listed : (list : Option Tag) → (◌≡◌ {A = Result (Option Tag) WorldFault} (Ok None) (Ok list)) → length (entries_in list) ≤ 0
nothing_listed None e = omega arith
nothing_listed (Some list) e = absurd cc

listed : (is_list : Bool) (tag : Tag) (list : Option Tag) → (◌≡◌ {A = Result (Option Tag) WorldFault} (cond is_list (Ok (Some tag)) (Err (faults.WrongType fields.BlockEntities))) (Ok list)) → Some tag ≡ list
listed true tag list e = cc
listed false tag list e = absurd cc

-- the entries of a list that is looked up in a row
entries_few : (levels : ℕ) (name : List ℕ) (row : List Named) (bytes : List ℕ) (list : Option Tag) → IsEach (IsEntry (IsPayload (suc levels))) row bytes → entry_list (tag_named name row) ≡ Ok list → length (entries_in list) ≤ length bytes
entries_few levels name row bytes list each is = by_found (find (has_name name) row) refl is
  where
    by_found : (o : Option Named) → find (has_name name) row ≡ o → entry_list (option_map tag_of o) ≡ Ok list → length (entries_in list) ≤ length bytes
    by_found None found same = omega (arith, nothing_listed list same)
    by_found (Some entry) found same =
        let inside = found_inside (suc levels) (has_name name) row bytes entry each found in
        let few : length (items_in (out-Tag (tag_of entry))) ≤ length inside.part = items_few levels (out-Tag (tag_of entry)) inside.part inside.spelled in
        subst (λ (l : Option Tag). length (entries_in l) ≤ length bytes) (listed (is_entry_list (tag_of entry)) (tag_of entry) list same) (omega (arith, few, inside.within))

-- ---- the whole

bind_ok : {A B : Type 0} (r : Result A WorldFault) (f : A → Result B WorldFault) (y : B) → (r >>= f) ≡ Ok y → (x : A) × (r ≡ Ok x) × (f x ≡ Ok y)
bind_ok (Ok x) f y e = (x, refl, e)
bind_ok (Err fault) f y e = absurd cc

parts_list : {a b : Parts} → (◌≡◌ {A = Result Parts WorldFault} (Ok a) (Ok b)) → a.list ≡ b.list
parts_list {a} {b} e = let same : a ≡ b = cc in ap (λ (p : Parts). p.list) same

-- the list of the parts that were read
list_of_parts : (row : List Named) (parts : Parts) → parts_of row ≡ Ok parts → entry_list (tag_named (field_name fields.BlockEntities) row) ≡ Ok parts.list
unfolding parts_of
list_of_parts row parts e =
    let version = bind_ok (data_version_of row) _ parts e in
    let area = bind_ok (area_of row) _ parts version.2 in
    let palette = bind_ok (palette_of row) _ parts area.2 in
    let cells = bind_ok (cells_of palette.0.numbers (volume area.0) row) _ parts palette.2 in
    let list = bind_ok (entry_list (tag_named (field_name fields.BlockEntities) row)) _ parts cells.2 in
    list.1 ∙ ap (λ (l : Option Tag). Ok l) (parts_list list.2)

read_root : (size : ℕ) (r : Result Named Flaw) (root : Named) → from_nbt (with_places size r) ≡ Ok root → r ≡ Ok root
read_root size (Ok x) root e = let same : x ≡ root = cc in ap (λ (n : Named). Ok n) same
read_root size (Err flaw) root e = absurd cc

-- where the named tags of a root are spelled
pub record IsRootInside (row : List Named) (bytes : List ℕ) : Type 0 where
  pub part : List ℕ
  pub each : IsEach (IsEntry (IsPayload 511)) row part
  pub within : length part ≤ length bytes

root_found : (bytes : List ℕ) (row : List Named) (root : Named) → whole_root bytes ≡ Ok root → schematic_row root ≡ Ok row → IsRootInside row bytes
unfolding schematic_row
root_found bytes row root read is =
    let spells : Spells root bytes = whole_root-sound bytes root read in
    let level : out-Tag (tag_of root) ≡ layer.Compound row = compound_root _ _ row is in
    let second = spells.second in
    let inside = row_inside 511 row second.back (subst (λ (l : Layer). IsLayer (nesting 512) l second.back) level second.second) in
    record { part = inside.0; each = inside.1; within = omega (arith, inside.2, joined_length bytes spells, joined_length spells.back second) }

root_inside : (bytes : List ℕ) (row : List Named) → root_row bytes ≡ Ok row → IsRootInside row bytes
unfolding root_row
root_inside bytes row e = by_test (is_compressed bytes) e
  where
    by_test : (b : Bool) → (◌≡◌ {A = Result (List Named) WorldFault} (cond b (Err faults.Compressed) (from_nbt (decoded bytes) >>= schematic_row)) (Ok row)) → IsRootInside row bytes
    by_test true is = absurd cc
    by_test false is =
        let root = bind_ok (from_nbt (decoded bytes)) schematic_row row is in
        root_found bytes row root.0 (read_root (length bytes) (whole_root bytes) root.0 root.1) root.2

loose_of_loaded : {a b : Loaded} → (◌≡◌ {A = Result Loaded WorldFault} (Ok a) (Ok b)) → a.carried.loose ≡ b.carried.loose
loose_of_loaded {a} {b} e = let same : a ≡ b = cc in ap (λ (l : Loaded). l.carried.loose) same

-- what is loose is at most as much as the bytes
pub loose_few : (bytes : List ℕ) (loaded : Loaded) → schematic_of bytes ≡ Ok loaded → length loaded.carried.loose ≤ length bytes
unfolding schematic_of
loose_few bytes loaded e =
    let row = bind_ok (root_row bytes) _ loaded e in
    let parts = bind_ok (parts_of row.0) _ loaded row.2 in
    let inside = root_inside bytes row.0 row.1 in
    let few = entries_few 510 (field_name fields.BlockEntities) row.0 inside.part parts.0.list inside.each (list_of_parts row.0 parts.0 parts.1) in
    let is_loose = λ (entry : Tag). is_none (place_of parts.0.area entry) in
    let same : loose_of parts.0.area (entries_in parts.0.list) ≡ loaded.carried.loose = loose_of_loaded parts.2 in
    omega (arith, few, inside.within, ap (λ (ts : List Tag). length ts) same, length-filter is_loose (entries_in parts.0.list), count_by-le-length is_loose (entries_in parts.0.list))

-- the same of what a reader answered
pub answer_few : (bytes : List ℕ) (answer : Result World WorldFault) → Gives loaded_of answer (schematic_of bytes) → IfOk answer (λ w. length w.carried.loose ≤ length bytes)
answer_few bytes (Ok w) gives = loose_few bytes (loaded_of w) gives
answer_few bytes (Err fault) gives = tt
