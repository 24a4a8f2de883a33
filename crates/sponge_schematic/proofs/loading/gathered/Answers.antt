-- Where the list is there, what it holds is gathered.
use Rattle.std.proofs.Common.{Option, IfOk, length, subst, sym}
use Rattle.std.proofs.lemmas.List.{length-map}
use Rattle.std.specs.Arc.{arc_value}
use Rattle.nbt_tags.specs.declared.tag.Tag.{Tag}
use Rattle.block_entities.specs.Gathering.{placed}
use Rattle.sponge_schematic.specs.Rows.{IsGathered}
use Rattle.sponge_schematic.specs.Schematic.{entries_in}
use Rattle.sponge_schematic.proofs.LoadLemmas.{gathered_known}
use Rattle.sponge_schematic.proofs.loading.gathered.Goals as goal

pub returns-in-Some : goal.returns-in-Some
returns-in-Some c =
    let e = c.gather.ensures in
    subst (λ (o : Option Tag). IfOk c.gather.result (λ g. IsGathered c.args.area.now (entries_in o) (placed g.entities) g.loose)) (sym c.in-Some.is)
    (gathered_known c.args.area.now c.in-Some.list (λ g. placed g.entities) (λ g. length g.entities) (λ g. g.loose) c.gather.result (c.requires c.in-Some.list c.in-Some.is)
    (λ g. length-map g.entities (λ e. (e.0, arc_value e.1))) e.entities e.rising e.loose e.good e.sound e.few)
