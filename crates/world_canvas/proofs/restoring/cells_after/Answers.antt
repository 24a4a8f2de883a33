use Rattle.std.proofs.Common.{◌≡◌, ◌<◌, ℕ, List, Vec, Global, length, get_or, map, subst, ap, sym, ◌∙◌}
use Rattle.std.specs.Vec.{with_items}
use Rattle.std.proofs.lemmas.List.{with_items_is}
use Rattle.world_canvas.specs.declared.cell_change.CellChange.{CellChange}
use Rattle.world_canvas.specs.Restoring.{number_written, last_first, AreWritten}
use Rattle.world_canvas.proofs.restoring.cells_after.Goals as goal

pub returns : goal.returns
returns c =
    let copied = c.in_ok-after.after in
    let changes = last_first (map (λ (v : Vec CellChange Global). v.items) c.args.kept.now) c.args.edits.now in
    let old : c.deref_mut.result.now ≡ c.args.cells.now = c.deref_mut.ensures.value ∙ c.in_ok-after.ensures.items in
    let long : length c.put_all.new.cells ≡ length c.args.cells.now = c.put_all.auto.cells ∙ ap (λ (ns : List ℕ). length ns) old in
    let items : (with_items copied c.put_all.new.cells).items ≡ c.put_all.new.cells = with_items_is copied c.put_all.new.cells (c.put_all.auto.cells ∙ ap (λ (ns : List ℕ). length ns) c.deref_mut.ensures.value ∙ sym copied.ok.0) in
    let each : (i : ℕ) → i < length c.args.cells.now → get_or c.put_all.new.cells i 0 ≡ number_written c.args.side changes c.args.cells.now i = rw old at c.put_all.ensures in
    subst (λ (ns : List ℕ). AreWritten c.args.side changes c.args.cells.now ns) (sym items) (record { long = long; each = each })
