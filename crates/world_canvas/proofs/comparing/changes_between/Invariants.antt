use Rattle.plain_terms.specs.Shown.{world_shown}
use Rattle.world_canvas.specs.Changes.{AreChangesBelow}
use Rattle.world_canvas.proofs.comparing.changes_between.Given as goal

-- the changes of the places passed
abbrev pub invariant-loop-index : goal.invariant-loop-index
invariant-loop-index l = AreChangesBelow (world_shown l.area l.kinds l.old) (world_shown l.area l.kinds l.new) l.kinds l.index l.changes.items
