use Rattle.std.proofs.Common.{◌<◌, ◌-◌, length, get_or, set, drop, ap, sym, ◌∙◌, List, ℕ, arith}
use Rattle.world_canvas.specs.declared.cell_change.CellChange.{CellChange}
use Rattle.world_canvas.specs.Restoring.{number_written}
use Rattle.world_canvas.proofs.Finding.{written_more, changes_from}
use Rattle.world_canvas.proofs.restoring.put.Goals as goal

pub loop-passed-preserved : goal.loop-passed-preserved
loop-passed-preserved c = λ i within.
    let changes = c.args.changes.now in
    let k = c.loop-passed.passed in
    let d : CellChange = record { index = 0; before = 0; after = 0 } in
    let change : CellChange = get_or changes (length changes - 1 - k) d in
    let rest = drop (length changes - k) changes in
    let cells = c.loop-passed.cells in
    let inside : change.index < length cells = omega (arith, c.loop-passed.auto.cells, c.requires (length changes - 1 - k) d (omega arith)) in
    ap (λ (n : ℕ). get_or (set cells change.index n) i 0) c.number_on.ensures
    ∙ written_more c.args.side change rest c.args.cells.now cells i inside (c.loop-passed.invariant i within)
    ∙ ap (λ (cs : List CellChange). number_written c.args.side cs c.args.cells.now i) (sym (changes_from changes k d (omega arith)))
