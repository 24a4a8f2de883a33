use Rattle.std.proofs.Common.{◌≡◌, ◌<◌, ℕ, sym, ap, ◌∙◌, arith, List, map, length}
use Rattle.std.specs.Prelude.{is_none}
use Rattle.std.specs.Arc.{arc_value}
use Rattle.std.specs.declared.sync.Arc.{Arc}
use Rattle.std.specs.declared.alloc.Global.{Global}
use Rattle.std.specs.Map.{keys_of, values_of}
use Rattle.std.proofs.lemmas.List.{length-map}
use Rattle.std.proofs.lemmas.List.Elements.{All-same, All-map, All-filter, recursion_from_All}
use Rattle.nbt_tags.specs.declared.tag.Tag.{Tag}
use Rattle.edit_terms.specs.declared.pos.Pos.{Pos}
use Rattle.edit_terms.specs.Area.{volume, position_of}
use Rattle.edit_terms.specs.Grid.{entity_of}
use Rattle.edit_terms.specs.World.{EntityTags}
use Rattle.block_entities.specs.Entry.{place_of}
use Rattle.block_entities.specs.FileEntities.{IsEntry, IsFileEntity}
use Rattle.block_entities.specs.Gathering.{entity_at, items_of, loose_of, placed}
use Rattle.block_entities.proofs.Entries.{items_of-entries, length-items_of}
use Rattle.block_entities.proofs.Places.{entity_of-positioned, positioned-values}
use Rattle.block_entities.proofs.gathering.gather.Goals as goal

pub entities_of-requires : goal.entities_of-requires
entities_of-requires c =
    All-same IsEntry c.as_slice.result.now (items_of c.args.list) (c.as_slice.ensures ∙ c.items_of-entries.ensures) (items_of-entries c.args.list c.requires)

pub returns-clause-entities : goal.returns-clause-entities
returns-clause-entities c = λ index below.
    let area = c.args.area.now in
    let found = c.in_ok-found.found.entries in
    let keys = recursion_from_All (λ k. k < volume area) (keys_of found) c.in_ok-found.ensures.below in
    ap (λ (es : List (Pos × EntityTags)). entity_of es (position_of area index)) c.in_ok-entities.ensures.list
    ∙ entity_of-positioned area found index c.well_formed-2.ensures below keys
    ∙ c.in_ok-found.ensures.each index
    ∙ ap (λ (entries : List Tag). entity_at area entries index) (c.as_slice.ensures ∙ c.items_of-entries.ensures)

pub returns-clause-good : goal.returns-clause-good
returns-clause-good c =
    let area = c.args.area.now in
    let found = c.in_ok-found.found.entries in
    let same : map (λ (e : Pos × EntityTags). e.1) (placed c.in_ok-entities.entities) ≡ map arc_value (values_of found) =
    ap (map (λ (e : Pos × EntityTags). e.1)) c.in_ok-entities.ensures.list ∙ positioned-values area found in
    All-same IsFileEntity _ (map arc_value (values_of found)) same (All-map IsFileEntity arc_value (values_of found) c.in_ok-found.ensures.good)

pub returns-clause-sound : goal.returns-clause-sound
returns-clause-sound c =
    let entries = c.items_of-entries.result in
    All-same IsEntry c.in_ok-loose.loose (loose_of c.args.area.now entries) c.in_ok-loose.ensures
    (All-filter (λ entry. is_none (place_of c.args.area.now entry)) IsEntry entries (All-same IsEntry entries (items_of c.args.list) c.items_of-entries.ensures (items_of-entries c.args.list c.requires)))

pub returns-clause-few : goal.returns-clause-few
returns-clause-few c =
    let area = c.args.area.now in
    let found = c.in_ok-found.found.entries in
    let entities : length c.in_ok-entities.entities ≡ length found =
    sym (length-map c.in_ok-entities.entities (λ (e : Pos × Arc EntityTags Global). (e.0, arc_value e.1))) ∙ ap length c.in_ok-entities.ensures.list ∙ length-map found (λ (e : ℕ × Arc EntityTags Global). (position_of area e.0, arc_value e.1)) in
    let loose = ap length c.in_ok-loose.ensures in
    let list = ap length (c.as_slice.ensures ∙ c.items_of-entries.ensures) in
    let same = ap (λ (entries : List Tag). length (loose_of area entries)) c.as_slice.ensures in
    omega (arith, entities, loose, list, same, c.in_ok-found.ensures.few)

pub returns-clause-counted : goal.returns-clause-counted
returns-clause-counted c = let few = returns-clause-few c in let counted = length-items_of c.args.list c.requires in omega (arith, few, counted)
