use Rattle.std.proofs.Common.{◌≡◌, ◌<◌, [], List, Vec, Global, length, get_or, map, take, ap, sym, ◌∙◌, arith}
use Rattle.std.proofs.lemmas.List.{get_or-map}
use Rattle.world_canvas.specs.declared.cell_change.CellChange.{CellChange}
use Rattle.world_canvas.specs.Restoring.{number_written, last_first}
use Rattle.world_canvas.proofs.Finding.{written_behind, last_first-more}
use Rattle.world_canvas.proofs.restoring.put_all.Goals as goal

pub loop-edit-preserved : goal.loop-edit-preserved
loop-edit-preserved c = λ i within.
    let side = c.args.side in
    let old = c.args.cells.now in
    let cells = c.loop-edit.cells in
    let edits = c.args.edits.now in
    let k = c.loop-edit.edit-index in
    let lists : List (List CellChange) = map (λ (v : Vec CellChange Global). v.items) c.args.kept.now in
    let inside : k < length edits = omega arith in
    let edit = get_or edits k 0 in
    let there : edit < length c.args.kept.now = c.requires.edits k 0 inside in
    let changes : c.deref.result.now ≡ get_or lists edit [] =
    c.deref.ensures.value ∙ ap (λ (v : Vec CellChange Global). v.items) c.index-kept-edit.is ∙ sym (get_or-map (λ (v : Vec CellChange Global). v.items) c.args.kept.now edit c.index-kept-edit.result [] there) in
    c.put.ensures i (omega (arith, c.loop-edit.auto.cells))
    ∙ ap (λ (cs : List CellChange). number_written side cs cells i) changes
    ∙ written_behind side (get_or lists edit []) (last_first lists (take k edits)) old cells i (c.loop-edit.invariant i within)
    ∙ ap (λ (cs : List CellChange). number_written side cs old i) (sym (last_first-more lists edits k 0 inside))
