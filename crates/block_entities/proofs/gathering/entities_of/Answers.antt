use Rattle.std.proofs.Common.{sym, ap, ◌∙◌, arith, cond, Option, Some}
use Rattle.edit_terms.specs.World.{EntityTags}
use Rattle.block_entities.specs.Entry.{tags_of_entry}
use Rattle.block_entities.specs.Gathering.{names_place}
use Rattle.block_entities.proofs.Entries.{entity_at-take_more, length-loose_of-take_more}
use Rattle.block_entities.proofs.gathering.entities_of.Goals as goal

pub loop-entry-preserved : goal.loop-entry-preserved
loop-entry-preserved c =
    let kept = c.loop-entry.invariant in
    let put = c.in_ok-put_entity.ensures in
    record {
      each = λ index.
          put.each index
          ∙ ap (λ (o : Option EntityTags). cond (names_place c.args.area.now index c.entry-item.result) (Some (tags_of_entry c.entry-item.result)) o) (kept.each index)
          ∙ sym (entity_at-take_more c.args.area.now c.args.entries.now c.entry-item.result c.loop-entry.entry-index index c.loop-entry-test.true c.entry-item.is);
      below = put.below kept.below;
      good = put.good kept.good;
      ordered = put.ordered kept.ordered;
      few =
          let more = length-loose_of-take_more c.args.area.now c.args.entries.now c.entry-item.result c.loop-entry.entry-index c.loop-entry-test.true c.entry-item.is in
          omega (arith, more, put.few, kept.few);
    }
