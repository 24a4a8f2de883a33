-- Each turn keeps what is to be kept of the row's last tag.
use Rattle.std.proofs.Common.{List, Option, ap, sym, ◌∙◌}
use Rattle.nbt_tags.specs.declared.tag.Tag.{Tag}
use Rattle.nbt_tags.specs.declared.tag.Named.{Named}
use Rattle.sponge_schematic.specs.Fields.{field_name}
use Rattle.sponge_schematic.specs.declared.fault.Field.TheVariants as fields
use Rattle.sponge_schematic.proofs.RowLemmas.{found_in, others_in, found-last, others-last}
use Rattle.sponge_schematic.proofs.others.keep_rest.Goals as goal

pub loop-entry-preserved : goal.loop-entry-preserved
loop-entry-preserved c =
    let name = field_name fields.BlockEntities in
    let row = c.pop.new.self in
    let entry = c.in-Some.entry in
    record {
      list = ap (λ (o : Option Tag). found_in name row o) c.in_ok-keep.ensures.list ∙ sym (found-last name row entry c.loop-entry.kept.list)
          ∙ ap (λ (r : List Named). found_in name r c.loop-entry.kept.list) (sym c.in-Some.ensures) ∙ c.loop-entry.invariant.list;
      others = ap (λ (behind : List Named). others_in row behind) c.in_ok-keep.ensures.others ∙ sym (others-last row entry c.loop-entry.kept.others.items)
          ∙ ap (λ (r : List Named). others_in r c.loop-entry.kept.others.items) (sym c.in-Some.ensures) ∙ c.loop-entry.invariant.others;
    }
