use Rattle.edit_terms.specs.Area.{holds}
use Rattle.chunk_sections.proofs.ColumnContents.{entities_more}
use Rattle.chunk_sections.proofs.opening.entities_of.Goals as goal

pub loop-placed-preserved : goal.loop-placed-preserved
loop-placed-preserved c =
    entities_more (holds c.args.part.now) c.entities-placed-items.result.now c.loop-placed.placed-index _ _ _ c.loop-placed-test.true c.placed-item.is c.loop-placed.invariant c.in_ok-keep.ensures
