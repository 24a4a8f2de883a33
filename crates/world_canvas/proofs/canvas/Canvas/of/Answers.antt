use Rattle.std.proofs.Common.{◌≡◌, ◌∙◌, ◌-◌, ℕ, List, true, length, drop, ap, sym, subst, arith}
use Rattle.std.specs.Arc.{arc_value}
use Rattle.std.proofs.lemmas.List.{length-map}
use Rattle.edit_terms.specs.declared.pos.Pos.{Pos}
use Rattle.edit_terms.specs.Area.{Area, holds, is_world_box, position_of}
use Rattle.edit_terms.specs.World.{EntityTags}
use Rattle.edit_terms.specs.Grid.{state_of_cell, entity_of}
use Rattle.world_canvas.proofs.EntityLemmas.{rising_held, listed_at, placed_more, entities_from, shows_grid, none_from_end}
use Rattle.world_canvas.proofs.canvas.Canvas.of.Goals as goal

pub loop-passed-init : goal.loop-passed-init
loop-passed-init c =
    let g = c.args.grid.now in
    let bare = c.in_ok-canvas.ensures in
    record {
      area = bare.area;
      contents = λ i within. bare.contents i within ∙ ap (λ (es : List (Pos × EntityTags)). record { state = state_of_cell g i; entity = entity_of es (position_of g.area i) }) (sym (none_from_end g.entities));
    }

pub place-requires : goal.place-requires
place-requires c =
    let g = c.args.grid.now in
    let placed = c.index-entities-entities.result in
    let e : Pos × EntityTags = (placed.0, arc_value placed.1) in
    let listed = listed_at arc_value c.entities-entities.result.now g.entities c.loop-passed.passed placed c.entities-entities.ensures.entities c.loop-passed-test.true c.index-entities-entities.is in
    let held = rising_held g.area 0 g.entities (length g.entities - 1 - c.loop-passed.passed) e c.entities-entities.ensures.rising (omega (arith, listed.within)) in
    subst (λ (a : Area). holds a placed.0 ≡ true) (sym c.loop-passed.invariant.area) (ap (λ (f : Pos × EntityTags). holds g.area f.0) (sym listed.is) ∙ held)

pub loop-passed-preserved : goal.loop-passed-preserved
loop-passed-preserved c =
    let g = c.args.grid.now in
    let k = c.loop-passed.passed in
    let placed = c.index-entities-entities.result in
    let entity = arc_value placed.1 in
    let e : Pos × EntityTags = (placed.0, entity) in
    let listed = listed_at arc_value c.entities-entities.result.now g.entities k placed c.entities-entities.ensures.entities c.loop-passed-test.true c.index-entities-entities.is in
    let held = rising_held g.area 0 g.entities (length g.entities - 1 - k) e c.entities-entities.ensures.rising (omega (arith, listed.within)) in
    let here : holds g.area placed.0 ≡ true = ap (λ (f : Pos × EntityTags). holds g.area f.0) (sym listed.is) ∙ held in
    let box : is_world_box g.area ≡ true = subst (λ (a : Area). is_world_box a ≡ true) c.area.ensures c.well_formed-2.ensures in
    record {
      area = c.in_ok-place.ensures.area ∙ c.loop-passed.invariant.area;
      contents = λ i within.
          placed_more g c.loop-passed.canvas c.place.new.self placed.0 entity (drop (length g.entities - k) g.entities) i box c.loop-passed.invariant.area here c.in_ok-place.ensures within (c.loop-passed.invariant.contents i within)
          ∙ ap (λ (es : List (Pos × EntityTags)). record { state = state_of_cell g i; entity = entity_of es (position_of g.area i) }) (sym (entities_from g.entities k e listed.within listed.is));
    }

pub returns : goal.returns
returns c =
    let g = c.args.grid.now in
    let long : length g.entities ≡ length c.entities-entities.result.now = ap (λ (xs : List (Pos × EntityTags)). length xs) (sym c.entities-entities.ensures.entities) ∙ length-map c.entities-entities.result.now (λ e. (e.0, arc_value e.1)) in
    let all : length g.entities - c.loop-passed.passed ≡ 0 = omega (arith, long) in
    shows_grid c.loop-passed.canvas g c.loop-passed.invariant.area
    (λ i within. c.loop-passed.invariant.contents i within ∙ ap (λ (n : ℕ). record { state = state_of_cell g i; entity = entity_of (drop n g.entities) (position_of g.area i) }) all)
