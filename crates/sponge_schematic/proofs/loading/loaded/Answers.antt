-- The world is that of the grid of the parts.
use Rattle.std.proofs.Common.{ap, ◌∙◌}
use Rattle.edit_terms.specs.Grid.{GridParts, world_of}
use Rattle.block_entities.specs.Gathering.{placed}
use Rattle.sponge_schematic.specs.Schematic.{entries_in}
use Rattle.sponge_schematic.proofs.LoadLemmas.{world_of_parts, writable_parts, element_known}
use Rattle.sponge_schematic.proofs.loading.loaded.Goals as goal

pub returns-clause-world : goal.returns-clause-world
returns-clause-world c =
    let g : GridParts = record { area = c.args.blocks.area; kinds = c.args.blocks.states.items; cells = c.args.blocks.cells.items; entities = placed c.in_ok-entities.field-0.entities } in
    ap world_of c.grid_of-grid.ensures ∙ world_of_parts g (entries_in c.args.kept.list) c.in_ok-entities.ensures.given

pub returns-clause-writable : goal.returns-clause-writable
returns-clause-writable c =
    let g : GridParts = record { area = c.args.blocks.area; kinds = c.args.blocks.states.items; cells = c.args.blocks.cells.items; entities = placed c.in_ok-entities.field-0.entities } in
    writable_parts g c.grid_of-grid.result c.grid_of-grid.ensures c.new-carried.result (entries_in c.args.kept.list) c.in_ok-entities.field-0.loose (ap (λ k. k.loose) c.new-carried.ensures)
    c.entities_of_grids.ensures.good c.entities_of_grids.ensures.count c.well_formed-2.ensures c.requires.numbered c.in_ok-entities.ensures

pub new-carried-requires : goal.new-carried-requires
new-carried-requires c = record { loose = c.in_ok-entities.ensures.sound; element = element_known c.args.kept.list c.element_of-element.result c.element_of-element.ensures c.requires.list }
