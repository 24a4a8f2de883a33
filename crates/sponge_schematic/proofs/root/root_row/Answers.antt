use Rattle.sponge_schematic.proofs.RootLemmas.{row_facts}
use Rattle.sponge_schematic.proofs.root.root_row.Goals as goal

pub returns-clause-row : goal.returns-clause-row
returns-clause-row c = row_facts c.args.bytes.now c.in_ok-root.root c.schematic_row.result c.requires c.in_ok-root.ensures.found c.in_ok-root.ensures.full c.schematic_row.ensures
