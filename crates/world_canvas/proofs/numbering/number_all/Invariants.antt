use Rattle.std.proofs.Common.{◌≡◌, length}
use Rattle.world_canvas.specs.Canvas.{IsGrown}
use Rattle.world_canvas.specs.Numbering.{AreNames}
use Rattle.world_canvas.proofs.numbering.number_all.Given as goal

-- the contents passed have numbers
abbrev pub invariant-loop-content : goal.invariant-loop-content
invariant-loop-content l = record {
  grown : IsGrown l.fn.kinds l.kinds;
  long : length l.numbers.items ≡ l.content-index;
  named : AreNames l.kinds l.numbers.items l.contents;
}
