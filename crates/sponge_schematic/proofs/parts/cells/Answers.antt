use Rattle.sponge_schematic.proofs.PartLemmas.{short_data, cells_known}
use Rattle.sponge_schematic.specs.declared.fault.Field.TheVariants as fields
use Rattle.sponge_schematic.proofs.parts.cells.Goals as goal

pub cells_in-requires : goal.cells_in-requires
cells_in-requires c = short_data fields.BlockData c.args.row.now c.in_ok-tag.tag.now c.in_ok-bytes.bytes.now c.requires c.in_ok-tag.ensures c.in_ok-bytes.ensures

pub returns-clause-cells : goal.returns-clause-cells
returns-clause-cells c = cells_known (λ v. v.items) c.args.places.now.numbers.items c.args.volume c.in_ok-bytes.bytes.now c.cells_in.result c.cells_in.ensures
