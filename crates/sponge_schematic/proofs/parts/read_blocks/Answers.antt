use Rattle.std.proofs.Common.{◌≡◌, Option, Ok, subst}
use Rattle.nbt_tags.specs.declared.tag.Tag.{Tag}
use Rattle.sponge_schematic.specs.Schematic.{entry_list}
use Rattle.sponge_schematic.specs.Fields.{field_name}
use Rattle.sponge_schematic.specs.declared.fault.Field.TheVariants as fields
use Rattle.sponge_schematic.proofs.PartLemmas.{entry_list_there}
use Rattle.sponge_schematic.proofs.parts.read_blocks.Goals as goal

pub returns-clause-list : goal.returns-clause-list
returns-clause-list c = entry_list_there c.args.row.now (field_name fields.BlockEntities) c.requires (subst (λ (o : Option Tag). entry_list o ≡ Ok o) c.field.ensures c.in_ok-check_entries.ensures)
