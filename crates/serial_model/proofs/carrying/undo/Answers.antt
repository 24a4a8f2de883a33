use Rattle.std.proofs.Common.{List, sym, subst}
use Rattle.std.specs.Prelude.{All}
use Rattle.world_canvas.specs.declared.cell_change.CellChange.{CellChange}
use Rattle.world_canvas.specs.Changes.{AreChangesNamed, AreChangesIn}
use Rattle.serial_model.proofs.CarryingLemmas.{All-from-map}
use Rattle.serial_model.proofs.carrying.undo.Goals as goal

pub take_back-requires-clause-named : goal.take_back-requires-clause-named
take_back-requires-clause-named c =
    All-from-map (λ (cs : List CellChange). AreChangesNamed c.args.canvas.now.kinds cs) (λ v. v.items) c.changes.result.now
    (subst (λ (css : List (List CellChange)). All (λ cs. AreChangesNamed c.args.canvas.now.kinds cs) css) (sym c.changes.ensures) c.requires.recorded.named)

pub take_back-requires-clause-within : goal.take_back-requires-clause-within
take_back-requires-clause-within c =
    All-from-map (λ (cs : List CellChange). AreChangesIn c.args.canvas.now.area cs) (λ v. v.items) c.changes.result.now
    (subst (λ (css : List (List CellChange)). All (λ cs. AreChangesIn c.args.canvas.now.area cs) css) (sym c.changes.ensures) c.requires.recorded.within)
