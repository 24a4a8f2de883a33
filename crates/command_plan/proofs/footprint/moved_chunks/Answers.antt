use Rattle.std.proofs.Common.{[], ◌∷◌}
use Rattle.edit_terms.specs.Frame.{frame_of_selection}
use Rattle.run_terms.specs.Access.{moved_box}
use Rattle.command_plan.proofs.footprint.moved_chunks.Goals as goal

pub returns : goal.returns
returns c =
    let box = frame_of_selection c.args.from.now in
    c.of_two.ensures c.args.area.now (box ∷ []) (moved_box c.args.to c.args.count box ∷ []) c.selected_rectangle.ensures c.target_rectangle.ensures
