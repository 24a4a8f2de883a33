use Rattle.std.proofs.Common.{◌≡◌, true, rules, sym, subst, ◌∙◌}
use Rattle.std.specs.Prelude.{option_copied}
use Rattle.edit_terms.specs.Area.{holds}
use Rattle.edit_terms.specs.World.{content_at}
use Rattle.edit_terms.specs.Grid.{entity_of}
use Rattle.chunk_sections.specs.Column.{ColumnContents, column_world, shown_entities}
use Rattle.chunk_sections.proofs.ColumnContents.{column_entity}
use Rattle.chunk_sections.proofs.column.Column.entity_at.Goals as goal

pub returns : goal.returns
returns c =
    let held : holds c.self.inside.part c.args.p ≡ true = search rules in
    let found : option_copied c.entity_of.result ≡ entity_of (shown_entities c.self.inside.entities) c.args.p = rw c.as_slice.ensures at c.entity_of.ensures in
    subst (λ (v : ColumnContents). option_copied c.entity_of.result ≡ (content_at (column_world v) c.args.p).entity) c.self.view_is
    (found ∙ sym (column_entity c.self.inside.area c.self.inside.chunk c.self.inside.part c.self.inside.sections.items (shown_entities c.self.inside.entities) c.args.p c.self.invariant.box held))
