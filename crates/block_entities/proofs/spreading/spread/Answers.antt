use Rattle.std.proofs.Common.{◌≡◌, ◌++◌, ◌<◌, ◌^◌, ◌-◌, true, length, sym, ap, ◌∙◌, subst, arith, length-append}
use Rattle.std.specs.Prelude.{IfSome, Option}
use Rattle.std.proofs.lemmas.List.Elements.{recursion_from_All}
use Rattle.edit_terms.specs.Area.{Area, is_world_box}
use Rattle.edit_terms.specs.Grid.{world_of}
use Rattle.nbt_tags.specs.declared.tag.Tag.{Tag}
use Rattle.nbt_tags.specs.Spelling.{max_depth}
use Rattle.nbt_tags.specs.WellFormed.{IsSoundTag}
use Rattle.block_entities.specs.FileEntities.{IsEntry}
use Rattle.block_entities.specs.Spreading.{entries_of, list_of}
use Rattle.block_entities.proofs.Rows.{each_both}
use Rattle.block_entities.proofs.WorldEntries.{entries-whole, entries_of-sound, length-entries_of-world_of, list_of-sound}
use Rattle.block_entities.proofs.spreading.spread.Goals as goal

pub returns-clause-exact : goal.returns-clause-exact
returns-clause-exact c =
    let box = subst (λ (a : Area). is_world_box a ≡ true) c.area.ensures c.well_formed-2.ensures in
    c.list_of.ensures
    ∙ ap (list_of c.args.element)
    (entries-whole c.args.grid.now c.area-2.result.now c.entities.result.now c.args.loose.now c.new-entries.result.items c.put_entities.new.entries.items c.put_loose.new.entries.items
    box c.entities.ensures.rising c.area-2.ensures c.entities.ensures.entities c.new-entries.ensures.items c.in_ok-put_entities.ensures c.in_ok-put_loose.ensures)

pub returns-clause-sound : goal.returns-clause-sound
returns-clause-sound c =
    let box = subst (λ (a : Area). is_world_box a ≡ true) c.area.ensures c.well_formed-2.ensures in
    let world = world_of c.args.grid.now in
    let loose = c.args.loose.now in
    let whole = returns-clause-exact c in
    let count : length (entries_of world ++ loose) < 2 ^ 31 = let e = length-entries_of-world_of c.args.grid.now box c.entities.ensures.rising in let f = length-append (entries_of world) loose in let few = c.requires.few in omega (arith, e, f, few) in
    let each = each_both IsEntry (entries_of world) loose (entries_of-sound world box c.requires.good) (recursion_from_All IsEntry loose c.requires.loose) in
    subst (λ (tag : Option Tag). IfSome tag (IsSoundTag (max_depth - 1))) (sym whole) (list_of-sound c.args.element (entries_of world ++ loose) c.requires.known count each)
