use Rattle.edit_terms.specs.Clipboard.{clip_box_of, placed_at}
use Rattle.command_plan.proofs.FootprintLemmas.{pasted_none, pasted_some}
use Rattle.command_plan.proofs.footprint.clip_chunks.Goals as goal

pub returns-in-None : goal.returns-in-None
returns-in-None c =
    pasted_none c.args.area.now c.args.place.now (clip_box_of c.args.clip.now c.args.area.now) c.nothing.result c.in-None.ensures (c.nothing.ensures.nothing c.args.area.now)

pub returns-in-Some : goal.returns-in-Some
returns-in-Some c =
    let area = c.args.area.now in
    let place = c.args.place.now in
    pasted_some area place (clip_box_of c.args.clip.now area) c.in-Some.bounds c.extent_chunks.result c.in-Some.ensures
    (λ box is. c.extent_chunks.ensures (record box { least = placed_at place box.least }) (c.placed_extent.ensures box is))
