use Rattle.std.proofs.Common.{◌∙◌, ap}
use Rattle.edit_terms.specs.Frame.{frame_of_selection}
use Rattle.run_terms.specs.Access.{moved_box}
use Rattle.command_plan.specs.Stacks.{moved_extent}
use Rattle.command_plan.proofs.StackLemmas.{moved_is}
use Rattle.command_plan.proofs.footprint.target_rectangle.Goals as goal

pub returns : goal.returns
returns c =
    let box = frame_of_selection c.args.from.now in
    let to = c.args.to in let count = c.args.count in
    c.cut.ensures (moved_box to count box) (c.moved.ensures ∙ ap (moved_extent to count) c.frame_of_selection.ensures.value ∙ moved_is to count box)
