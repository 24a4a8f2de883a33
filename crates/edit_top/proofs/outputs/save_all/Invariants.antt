use Rattle.std.proofs.Common.{◌≡◌, ◌++◌, map}
use Rattle.std.specs.Vec.Iter.{into_iter_items}
use Rattle.run_ports.specs.Store.{IsLater}
use Rattle.edit_top.specs.Outputs.{output_view, AreSaved}
use Rattle.edit_top.proofs.outputs.save_all.Given as goal

-- the outputs passed are saved
abbrev pub invariant-loop-output : goal.invariant-loop-output
invariant-loop-output g l = record {
  saved : AreSaved (g.F.Shelf.seen l.fn.shelf).files (g.F.Shelf.seen l.shelf).files (map output_view l.yielded);
  later : IsLater (g.F.Shelf.seen l.fn.shelf) (g.F.Shelf.seen l.shelf);
  split : l.yielded ++ into_iter_items l.output-iterator ≡ l.fn.outputs.items;
}
