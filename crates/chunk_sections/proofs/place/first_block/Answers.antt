use Rattle.std.proofs.Common.{◌≡◌, true, rules, sym, subst, arith}
use Rattle.edit_terms.specs.declared.pos.Pos.{Pos}
use Rattle.edit_terms.specs.Area.{holds}
use Rattle.edit_terms.proofs.AreaLemmas.{limits}
use Rattle.edit_terms.proofs.ColumnLemmas.{few_columns}
use Rattle.chunk_sections.specs.Column.{first_block}
use Rattle.chunk_sections.proofs.PlaceLemmas.{chunk_z, first_block_held}
use Rattle.chunk_sections.proofs.place.first_block.Goals as goal

pub corner-requires-clause-few_z : goal.corner-requires-clause-few_z
corner-requires-clause-few_z c =
    let few = few_columns c.args.area.now.least.z c.args.area.now.length (limits c.args.area.now c.well_formed-2.ensures).short in
    let under = chunk_z c.args.area.now c.args.chunk c.requires in
    rw c.chunk_columns-columns.ensures.value (omega (arith, few, under))

pub returns-clause-held : goal.returns-clause-held
returns-clause-held c =
    let same : c.corner.result ≡ first_block c.args.area.now c.args.chunk = search rules in
    subst (λ (p : Pos). holds c.args.area.now p ≡ true) (sym same) (first_block_held c.args.area.now c.args.chunk c.well_formed-2.ensures c.requires)
