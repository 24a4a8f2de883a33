use Rattle.std.proofs.Common.{◌≡◌, ◌<◌, [], length, rules, subst, ◌∙◌, arith}
use Rattle.std.proofs.lemmas.List.{get_or_default}
use Rattle.edit_terms.specs.Area.{Area}
use Rattle.chunk_sections.specs.Cut.{cut_of, section_count}
use Rattle.chunk_sections.specs.Column.{ColumnContents, blocks_of, section_states, shown_entities}
use Rattle.chunk_sections.proofs.ColumnContents.{section_is}
use Rattle.chunk_sections.proofs.column.Column.section.Goals as goal

pub returns : goal.returns
returns c =
    let there : c.args.number < section_count (cut_of c.self.inside.part) = search rules in
    let inside : c.args.number < length c.self.inside.sections.items = omega (arith, there, c.self.invariant.cut.count) in
    subst (λ (v : ColumnContents). (c.args.number < section_count (cut_of (blocks_of v))) × (c.index.result.now ≡ section_states v c.args.number)) c.self.view_is (
      subst (λ (b : Area). c.args.number < section_count (cut_of b)) c.self.invariant.box there,
      c.index.ensures ∙ get_or_default c.self.inside.sections.items c.args.number _ [] inside
          ∙ section_is c.self.inside.area c.self.inside.chunk c.self.inside.part c.self.inside.sections.items (shown_entities c.self.inside.entities) c.well_formed-2.ensures c.self.invariant c.args.number there,
    )
