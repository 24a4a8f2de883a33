use Rattle.std.proofs.Common.{◌≡◌, ◌<◌, true, sym, ap, subst, ◌∙◌}
use Rattle.edit_terms.specs.Area.{Area, chunks, is_world_box}
use Rattle.edit_terms.specs.Grid.{world_of}
use Rattle.chunk_sections.specs.Column.{column_box, part_contents, shown_entities}
use Rattle.chunk_sections.proofs.ColumnContents.{grid_part, grid_cut_up, kept_of_grid}
use Rattle.chunk_sections.proofs.column.Column.from_grid.Goals as goal

pub sections_of-requires : goal.sections_of-requires
sections_of-requires c =
    let whole = subst (λ (b : Area). is_world_box b ≡ true) c.area-area.ensures c.well_formed-2.ensures in
    grid_part c.args.grid.now c.args.chunk c.column_box-part.result whole c.well_formed-3.ensures c.requires
    (c.column_box-part.ensures.value ∙ ap (λ (b : Area). column_box b c.args.chunk) c.area-area.ensures) c.column_box-part.ensures.narrow c.column_box-part.ensures.short

pub invariant_of-result : goal.invariant_of-result
invariant_of-result c = record {
  box = c.column_box-part.ensures.value;
  there = subst (λ (b : Area). c.args.chunk < chunks b) (sym c.area-area.ensures) c.requires;
  cut = grid_cut_up c.args.grid.now c.column_box-part.result c.column_box-part.ensures.narrow c.column_box-part.ensures.short c.in_ok-sections.sections.items c.in_ok-sections.ensures;
}

pub returns : goal.returns
returns c =
    let whole = subst (λ (b : Area). is_world_box b ≡ true) c.area-area.ensures c.well_formed-2.ensures in
    let box = c.column_box-part.ensures.value ∙ ap (λ (b : Area). column_box b c.args.chunk) c.area-area.ensures in
    let part = grid_part c.args.grid.now c.args.chunk c.column_box-part.result whole c.well_formed-3.ensures c.requires box c.column_box-part.ensures.narrow c.column_box-part.ensures.short in
    let contents = kept_of_grid c.args.grid.now c.column_box-part.result c.in_ok-sections.sections.items (shown_entities c.in_ok-entities.entities) c.well_formed-3.ensures part c.in_ok-sections.ensures c.in_ok-entities.ensures
    ∙ ap (part_contents (world_of c.args.grid.now)) box in
    λ i. record { area = c.area-area.ensures i; chunk = c.args.chunk; contents = contents i }
