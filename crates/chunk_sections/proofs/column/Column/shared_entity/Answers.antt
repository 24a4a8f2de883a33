use Rattle.std.proofs.Common.{◌≡◌, ◌<◌, get_or, rules, sym, ap, subst, ◌∙◌}
use Rattle.std.specs.Prelude.{option_map, option_copied}
use Rattle.std.specs.Arc.{arc_value}
use Rattle.edit_terms.specs.Area.{Area, volume, position_of}
use Rattle.edit_terms.specs.World.{BlockContent, air_content}
use Rattle.edit_terms.specs.Grid.{entity_of}
use Rattle.chunk_sections.specs.Column.{ColumnContents, blocks_of, shown_entities}
use Rattle.chunk_sections.proofs.ColumnContents.{kept_at}
use Rattle.chunk_sections.proofs.column.Column.shared_entity.Goals as goal

pub returns : goal.returns
returns c =
    let within = subst (λ (b : Area). c.args.place < volume b) (sym c.self.invariant.box) (subst (λ (v : ColumnContents). c.args.place < volume (blocks_of v)) (sym c.self.view_is) c.requires) in
    let at : c.unwrap-p.result ≡ position_of c.self.inside.part c.args.place = search rules in
    let found : option_map arc_value (option_copied c.shared_entity_of.result) ≡ entity_of (shown_entities c.self.inside.entities) c.unwrap-p.result = rw c.as_slice.ensures at c.shared_entity_of.ensures in
    subst (λ (v : ColumnContents). option_map arc_value (option_copied c.shared_entity_of.result) ≡ (get_or v.contents c.args.place air_content).entity) c.self.view_is
    (found ∙ ap (entity_of (shown_entities c.self.inside.entities)) at
    ∙ ap (λ (b : BlockContent). b.entity) (sym (kept_at c.self.inside.part c.self.inside.sections.items (shown_entities c.self.inside.entities) c.args.place within)))
