use Rattle.std.proofs.Common.{arith}
use Rattle.sponge_schematic.proofs.Chain.{IfOk-implied}
use Rattle.sponge_schematic.proofs.PartLemmas.{short_palette}
use Rattle.sponge_schematic.specs.declared.fault.Field.TheVariants as fields
use Rattle.sponge_schematic.proofs.parts.palette.Goals as goal

pub read_entries-requires : goal.read_entries-requires
read_entries-requires c = short_palette fields.Palette c.args.row.now c.in_ok-tag.tag.now c.in_ok-entries.entries.now c.requires c.in_ok-tag.ensures c.in_ok-entries.ensures

pub returns-clause-short : goal.returns-clause-short
returns-clause-short c =
    let lt = short_palette fields.Palette c.args.row.now c.in_ok-tag.tag.now c.in_ok-entries.entries.now c.requires c.in_ok-tag.ensures c.in_ok-entries.ensures in
    IfOk-implied c.read_entries.result (λ x e. omega (arith, e, lt)) c.read_entries.ensures.numbers
