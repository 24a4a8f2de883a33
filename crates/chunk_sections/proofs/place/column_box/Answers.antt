use Rattle.std.proofs.Common.{◌≤◌, sym, subst}
use Rattle.edit_terms.specs.Area.{Area}
use Rattle.chunk_sections.proofs.PlaceLemmas.{box_narrow, box_short}
use Rattle.chunk_sections.proofs.place.column_box.Goals as goal

pub returns-clause-narrow : goal.returns-clause-narrow
returns-clause-narrow c = subst (λ (b : Area). b.width ≤ 16) (sym c.chunk_box.ensures.part) (box_narrow c.args.area.now c.first_block.result c.first_block.ensures.held)

pub returns-clause-short : goal.returns-clause-short
returns-clause-short c = subst (λ (b : Area). b.length ≤ 16) (sym c.chunk_box.ensures.part) (box_short c.args.area.now c.first_block.result c.first_block.ensures.held)
