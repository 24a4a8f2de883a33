use Rattle.std.proofs.Common.{ℕ, List, Vec, Global, map, subst, sym}
use Rattle.std.specs.Prelude.{All}
use Rattle.plain_terms.specs.Shown.{IsNumbered, world_shown}
use Rattle.world_canvas.specs.declared.cell_change.CellChange.{CellChange}
use Rattle.world_canvas.specs.Canvas.{Painting, shown}
use Rattle.world_canvas.specs.Changes.{AreChangesNamed, AreChangesBetween, IsRewritten}
use Rattle.world_canvas.specs.Restoring.{restored, content_on, changes_taken, last_first, AreWritten}
use Rattle.world_canvas.proofs.RestoringLemmas.{restored_world, restored_numbered}
use Rattle.world_canvas.proofs.canvas.Canvas.restore.Goals as goal

pub changes_between-requires-clause-new_numbered : goal.changes_between-requires-clause-new_numbered
changes_between-requires-clause-new_numbered c =
    let canvas = c.self.inside in
    let lists = map (λ (v : Vec CellChange Global). v.items) c.args.kept.now in
    let written : AreWritten c.args.side (last_first lists c.args.edits.now) canvas.cells.items c.in_ok-cells.cells.items = rw c.deref.ensures.value at c.in_ok-cells.ensures in
    let named = subst (λ (p : Painting). All (λ (v : Vec CellChange Global). AreChangesNamed p.kinds v.items) c.args.kept.now) (sym c.self.view_is) c.requires.named in
    subst (λ (ns : List ℕ). IsNumbered canvas.area canvas.kinds ns) (sym c.deref-3.ensures.value)
    (restored_numbered (λ (v : Vec CellChange Global). v.items) c.args.side canvas.area canvas.kinds canvas.cells.items c.in_ok-cells.cells.items c.args.kept.now c.args.edits.now c.self.invariant written c.requires.edits named)

pub invariant_of-self : goal.invariant_of-self
invariant_of-self c =
    let canvas = c.self.inside in
    let lists = map (λ (v : Vec CellChange Global). v.items) c.args.kept.now in
    let written : AreWritten c.args.side (last_first lists c.args.edits.now) canvas.cells.items c.in_ok-cells.cells.items = rw c.deref.ensures.value at c.in_ok-cells.ensures in
    let named = subst (λ (p : Painting). All (λ (v : Vec CellChange Global). AreChangesNamed p.kinds v.items) c.args.kept.now) (sym c.self.view_is) c.requires.named in
    restored_numbered (λ (v : Vec CellChange Global). v.items) c.args.side canvas.area canvas.kinds canvas.cells.items c.in_ok-cells.cells.items c.args.kept.now c.args.edits.now c.self.invariant written c.requires.edits named

pub returns-clause-restored : goal.returns-clause-restored
returns-clause-restored c =
    let canvas = c.self.inside in
    let lists = map (λ (v : Vec CellChange Global). v.items) c.args.kept.now in
    let edits = c.args.edits.now in
    let recorded = c.in_ok-changes.changes.items in
    let new = c.in_ok-cells.cells.items in
    let written : AreWritten c.args.side (last_first lists edits) canvas.cells.items new = rw c.deref.ensures.value at c.in_ok-cells.ensures in
    let between : AreChangesBetween (world_shown canvas.area canvas.kinds canvas.cells.items) (world_shown canvas.area canvas.kinds new) canvas.kinds recorded =
    rw (c.deref-2.ensures.value, c.deref-3.ensures.value) at c.in_ok-changes.ensures in
    subst (λ (p : Painting). IsRewritten (restored (content_on c.args.side) (changes_taken p.kinds lists edits) (shown p)) p (record { area = canvas.area; kinds = canvas.kinds; cells = new }) recorded) c.self.view_is
    (restored_world c.args.side canvas.area canvas.kinds canvas.cells.items new lists edits recorded c.self.invariant written between)
