use Rattle.std.proofs.Common.{◌∙◌, ap}
use Rattle.edit_terms.specs.Frame.{frame_of_selection}
use Rattle.command_plan.specs.Stacks.{stack_hull, stacked_extent}
use Rattle.command_plan.proofs.StackLemmas.{stacked_is}
use Rattle.command_plan.proofs.FootprintLemmas.{stacked_set}
use Rattle.command_plan.proofs.footprint.stacked_chunks.Goals as goal

pub returns : goal.returns
returns c =
    let box = frame_of_selection c.args.from.now in
    let to = c.args.to in let count = c.args.count in
    let hull = stack_hull count to box in
    let is = c.stacked.ensures ∙ ap (stacked_extent to count) c.frame_of_selection.ensures.value ∙ stacked_is to count box in
    stacked_set c.args.area.now box count to c.extent_chunks.result (c.extent_chunks.ensures hull is)
