-- What is left of the row, and what was kept of what stood behind it, are what is to be kept.
use Rattle.std.proofs.Common.{◌≡◌, length}
use Rattle.sponge_schematic.specs.Fields.{tag_named, field_name}
use Rattle.sponge_schematic.specs.Schematic.{others_of}
use Rattle.sponge_schematic.specs.declared.fault.Field.TheVariants as fields
use Rattle.sponge_schematic.proofs.RowLemmas.{found_in, others_in}
use Rattle.sponge_schematic.proofs.others.keep_rest.Given as goal

abbrev pub invariant-loop-entry : goal.invariant-loop-entry
invariant-loop-entry l = record {
  list : found_in (field_name fields.BlockEntities) l.row l.kept.list ≡ tag_named (field_name fields.BlockEntities) l.fn.row;
  others : others_in l.row l.kept.others.items ≡ others_of l.fn.row;
}

abbrev pub decreases-loop-entry : goal.decreases-loop-entry
decreases-loop-entry l = length l.row
