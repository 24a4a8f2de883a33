use Rattle.std.proofs.Common.{◌≡◌, ◌<◌, List, get_or, sym, ap, subst, ◌∙◌}
use Rattle.edit_terms.specs.Area.{Area, volume}
use Rattle.edit_terms.specs.StateText.{State}
use Rattle.edit_terms.specs.World.{BlockContent, air_content}
use Rattle.chunk_sections.specs.Cut.{cut_of}
use Rattle.chunk_sections.specs.Column.{ColumnContents, blocks_of, shown_entities, state_of_place}
use Rattle.chunk_sections.proofs.ColumnContents.{kept_at}
use Rattle.chunk_sections.proofs.column.Column.state_at.Goals as goal

pub returns : goal.returns
returns c =
    let within = subst (λ (b : Area). c.args.place < volume b) (sym c.self.invariant.box) (subst (λ (v : ColumnContents). c.args.place < volume (blocks_of v)) (sym c.self.view_is) c.requires) in
    subst (λ (v : ColumnContents). c.state_in.result.now ≡ (get_or v.contents c.args.place air_content).state) c.self.view_is
    (c.state_in.ensures ∙ ap (λ (ss : List (List State)). state_of_place (cut_of c.self.inside.part) ss c.args.place) c.as_slice.ensures.value
    ∙ ap (λ (b : BlockContent). b.state) (sym (kept_at c.self.inside.part c.self.inside.sections.items (shown_entities c.self.inside.entities) c.args.place within)))
