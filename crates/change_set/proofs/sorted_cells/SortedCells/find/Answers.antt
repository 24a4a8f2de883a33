use Rattle.std.proofs.Common.{rules, ◌∙◌}
use Rattle.std.proofs.lemmas.List.Sorted.{answers_always}
use Rattle.edit_terms.specs.declared.pos.Pos.{Pos}
use Rattle.edit_terms.specs.World.{BlockContent}
use Rattle.change_set.proofs.SortedLemmas.{key_of, found_read, not_read}
use Rattle.change_set.proofs.sorted_cells.SortedCells.find.Goals as goal

pub returns-in-Ok : goal.returns-in-Ok
returns-in-Ok c =
    let e = c.in-Ok.ensures in
    let equal = e.position (λ (cell : Pos × BlockContent). key_of cell.0) (answers_always _ _ _ (λ f a r g called. search rules)) in
    found_read c.deref.result.now c.args.self.now c.args.p.now c.order_key.result c.in-Ok.place (c.deref.ensures.value ∙ c.self.view_is) c.order_key.ensures e.bound equal

pub returns-in-Err : goal.returns-in-Err
returns-in-Err c =
    let e = c.in-Err.ensures in
    let parts = e.position (λ (cell : Pos × BlockContent). key_of cell.0) (answers_always _ _ _ (λ f a r g called. search rules)) in
    not_read c.deref.result.now c.self.inside.cells.items c.args.self.now c.args.p.now c.order_key.result c.in-Err._gap c.deref.ensures.value c.self.view_is c.order_key.ensures c.self.invariant.in_order parts
