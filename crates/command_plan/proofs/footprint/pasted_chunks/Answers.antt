use Rattle.std.proofs.Common.{Option, subst, sym}
use Rattle.std.specs.Option.{option_and_then}
use Rattle.edit_terms.specs.declared.clip.Clip.{Clip}
use Rattle.edit_terms.specs.Clipboard.{clip_box_of}
use Rattle.run_terms.specs.Access.{pasted_boxes}
use Rattle.command_plan.specs.Cuts.{IsChunkSetOf}
use Rattle.command_plan.proofs.footprint.pasted_chunks.Goals as goal

pub returns-in-None : goal.returns-in-None
returns-in-None c =
    let area = c.args.area.now in
    subst (λ (o : Option Clip). IsChunkSetOf area (pasted_boxes c.args.place.now (option_and_then (λ clip. clip_box_of clip area) o)) c.nothing.result) (sym c.in-None.is) (c.nothing.ensures.nothing area)
