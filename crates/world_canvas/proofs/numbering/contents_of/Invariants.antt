use Rattle.std.proofs.Common.{◌≡◌, take}
use Rattle.world_canvas.proofs.numbering.contents_of.Given as goal

abbrev pub invariant-loop-number : goal.invariant-loop-number
invariant-loop-number l = l.contents.items ≡ take l.number l.kinds
