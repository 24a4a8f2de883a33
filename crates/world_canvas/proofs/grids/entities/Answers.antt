use Rattle.std.proofs.Common.{◌≡◌, Some, None, ap, sym, refl, rules}
use Rattle.std.specs.Prelude.{option_map}
use Rattle.std.specs.Arc.{arc_value}
use Rattle.std.specs.List.{filter_map, range_with_len}
use Rattle.std.proofs.lemmas.List.{map-append, append-nil}
use Rattle.edit_terms.specs.Area.{position_of}
use Rattle.edit_terms.specs.World.{EntityTags}
use Rattle.world_canvas.specs.Canvas.{Painting}
use Rattle.world_canvas.specs.Placing.{entity_here}
use Rattle.world_canvas.proofs.Differences.{filter_map-range_more}
use Rattle.world_canvas.proofs.grids.entities.Goals as goal
use Rattle.world_canvas.proofs.grids.entities.Goals.{in-Some+in_ok-try_clone+in_ok-push, in_default}

pub loop-index-preserved : goal.loop-index-preserved
loop-index-preserved c =
    let p : Painting = c.args.canvas.now in
    let k = c.loop-index.index in
    elim c.match-entity.branch [
      | in-Some+in_ok-try_clone+in_ok-push w ↦
          let x = arc_value w.in-Some.entity.now in
          let here : entity_here p k ≡ Some (position_of p.area k, x) = ap (option_map (λ (e : EntityTags). (position_of p.area k, e))) (sym w.in-Some.ensures) in
          let at : w.unwrap-p.result ≡ position_of p.area k = search rules in
          let cloned : arc_value w.in_ok-try_clone.field-0 ≡ x = search rules in
          rw (w.list-is, w.in_ok-push.ensures.items, map-append, c.loop-index.invariant, at, cloned, filter_map-range_more (entity_here p) k, here) refl
      | in_default w ↦
          let here : entity_here p k ≡ None = ap (option_map (λ (e : EntityTags). (position_of p.area k, e))) (sym w.in_default.ensures) in
          rw (w.list-is, c.loop-index.invariant, filter_map-range_more (entity_here p) k, here) (sym (append-nil (filter_map (entity_here p) (range_with_len 0 k))))
    ]
