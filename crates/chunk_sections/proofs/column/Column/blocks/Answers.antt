use Rattle.std.proofs.Common.{◌≡◌, ◌&&◌, ◌==◌, ap, subst, ◌∙◌}
use Rattle.edit_terms.specs.Area.{Area, holds, chunk_of}
use Rattle.chunk_sections.specs.Column.{ColumnContents}
use Rattle.chunk_sections.proofs.PlaceLemmas.{first_block_held}
use Rattle.chunk_sections.proofs.ChunkLaw.{column_box-holds}
use Rattle.chunk_sections.proofs.column.Column.blocks.Goals as goal

pub returns-clause-cells : goal.returns-clause-cells
returns-clause-cells c =
    λ p. subst (λ (v : ColumnContents). holds c.self.inside.part p ≡ (holds v.area p && (chunk_of v.area p == v.chunk))) c.self.view_is
    (ap (λ (b : Area). holds b p) c.self.invariant.box
    ∙ column_box-holds c.self.inside.area c.self.inside.chunk c.well_formed-2.ensures c.self.invariant.there (first_block_held c.self.inside.area c.self.inside.chunk c.well_formed-2.ensures c.self.invariant.there) p)
