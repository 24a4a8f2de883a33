use Rattle.std.proofs.Common.{ap, ◌∙◌}
use Rattle.std.specs.Prelude.{option_map}
use Rattle.edit_terms.specs.Area.{Area}
use Rattle.edit_terms.specs.Clipboard.{clip_box_of}
use Rattle.clipboard_transform.specs.Bounds.{corners}
use Rattle.plain_effects.proofs.ExtentLemmas.{nothing_copied, all_copied}
use Rattle.plain_effects.proofs.changes.clip_extent.Goals as goal

pub returns-in_default : goal.returns-in_default
returns-in_default c =
    let same = ap (λ (a : Area). option_map corners (clip_box_of c.args.clip.now a)) c.area.ensures in
    nothing_copied c.args.clip.now c.args.earlier.now c.args.place.now c.selection_fits.ensures (c.in_default.ensures ∙ same)

pub returns : goal.returns
returns c =
    let same = ap (λ (a : Area). option_map corners (clip_box_of c.args.clip.now a)) c.area.ensures in
    all_copied c.args.clip.now c.args.earlier.now c.args.place.now c.in-Some.corners c.placed_extent.result c.selection_fits.ensures (c.in-Some.ensures ∙ same) c.placed_extent.ensures
