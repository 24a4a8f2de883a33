use Rattle.std.proofs.Common.{sym, ap, ◌∙◌, subst}
use Rattle.edit_terms.specs.declared.pos.Pos.{Pos}
use Rattle.edit_terms.specs.Clipboard.{relative_to}
use Rattle.std.specs.Arc.{arc_value}
use Rattle.edit_terms.specs.World.{EntityTags}
use Rattle.block_entities.specs.FileEntities.{tags_of}
use Rattle.block_entities.proofs.Local.{HasFit, local_fits}
use Rattle.block_entities.proofs.WorldEntries.{entry_of-built}
use Rattle.block_entities.proofs.spreading.entry_of.Goals as goal

pub local_position-local-requires : goal.local_position-local-requires
local_position-local-requires c =
    let P : Pos → Type 0 = λ least. HasFit (relative_to least c.args.placed.now.0) in
    let fits = subst P (sym c.least.ensures) (local_fits c.args.area.now c.args.placed.now.0 c.well_formed-2.ensures c.requires) in
    record { x = fits.x; y = fits.y; z = fits.z }

pub returns : goal.returns
returns c =
    let p = c.args.placed.now.0 in
    let before = c.in_ok-row.ensures ∙ ap tags_of (c.before-2.ensures ∙ ap (λ (e : EntityTags). e.before) c.deref.ensures) in
    let after = c.in_ok-tags_of.ensures ∙ ap tags_of (c.after.ensures ∙ ap (λ (e : EntityTags). e.after) c.deref-2.ensures) in
    let local = c.local_position-local.ensures ∙ ap (λ (least : Pos). relative_to least p) c.least.ensures in
    entry_of-built c.args.area.now p c.local_position-local.result (arc_value c.args.placed.now.1) c.in_ok-row.row c.push.new.self c.in_ok-tags_of.field-0 c.append.new.self c.in_ok-pos_tag.field-0
    c.requires before local c.in_ok-pos_tag.ensures c.in_ok-push.ensures.ok after c.in_ok-append.ensures
