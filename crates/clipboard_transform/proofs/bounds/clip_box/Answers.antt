use Rattle.std.proofs.Common.{◌∙◌, ap}
use Rattle.edit_terms.specs.Clipboard.{relative_to}
use Rattle.clipboard_transform.proofs.BoundsLemmas.{clip_corners, some_bounds}
use Rattle.clipboard_transform.proofs.bounds.clip_box.Goals as goal

-- src/bounds.rt:16:1
pub returns : goal.returns
returns c =
    let origin = c.args.clip.now.origin in
    let least = c.relative_box-copied.ensures.least ∙ ap (λ b. relative_to origin b.least) c.box_of.ensures.value in
    let greatest = c.relative_box-copied.ensures.greatest ∙ ap (λ b. relative_to origin b.greatest) c.box_of.ensures.value in
    some_bounds c.args.clip.now c.args.area.now c.in_ok-shared.shared c.sent_box.result c.well_formed-2.ensures c.in_ok-shared.ensures.cut
    (c.sent_box.ensures ∙ clip_corners c.args.clip.now.transform origin c.in_ok-shared.shared c.relative_box-copied.result least greatest)
