use Rattle.std.proofs.Common.{◌≡◌, ◌∙◌, List, [], true, map, ap, sym, subst, rules, arith}
use Rattle.std.specs.Arc.{arc_value}
use Rattle.std.specs.List.{filter_map, range_with_len}
use Rattle.edit_terms.specs.declared.pos.Pos.{Pos}
use Rattle.edit_terms.specs.Area.{Area, volume}
use Rattle.edit_terms.specs.StateText.{State}
use Rattle.edit_terms.specs.World.{EntityTags, BlockContent}
use Rattle.edit_terms.specs.Grid.{GridParts, world_of, is_numbered, is_rising_from}
use Rattle.world_canvas.specs.Canvas.{Painting, shown}
use Rattle.world_canvas.specs.Placing.{entity_here}
use Rattle.world_canvas.proofs.EntityLemmas.{entities_rise, grid_shown, grid_shows, shown_numbered}
use Rattle.world_canvas.proofs.canvas.Canvas.into_grid.Goals as goal

pub unwrap-grid-requires : goal.unwrap-grid-requires
unwrap-grid-requires c =
    let canvas = c.self.inside in
    let p : Painting = record { area = canvas.area; kinds = canvas.kinds; cells = canvas.cells.items } in
    let states : c.in_ok-states.states.items ≡ map (λ (k : BlockContent). k.state) canvas.kinds = c.in_ok-states.ensures ∙ ap (map (λ (k : BlockContent). k.state)) (c.deref.ensures.value ∙ c.in_ok-contents.ensures) in
    let numbered : is_numbered canvas.area c.in_ok-states.states.items canvas.cells.items ≡ true =
    subst (λ (ss : List State). is_numbered canvas.area ss canvas.cells.items ≡ true) (sym states) (shown_numbered p c.self.invariant) in
    search rules

pub unwrap-requires : goal.unwrap-requires
unwrap-requires c =
    let canvas = c.self.inside in
    let p : Painting = record { area = canvas.area; kinds = canvas.kinds; cells = canvas.cells.items } in
    let entities : map (λ e. (e.0, arc_value e.1)) c.in_ok-entities.entities ≡ filter_map (entity_here p) (range_with_len 0 (volume p.area)) = subst (λ (q : Painting). map (λ e. (e.0, arc_value e.1)) c.in_ok-entities.entities ≡ filter_map (entity_here q) (range_with_len 0 (volume q.area))) (sym c.self.view_is) c.in_ok-entities.ensures in
    let area : c.unwrap-grid.result.area ≡ canvas.area = search rules in
    let rising : is_rising_from c.unwrap-grid.result.area 0 (map (λ e. (e.0, arc_value e.1)) c.in_ok-entities.entities) ≡ true =
    subst (λ (a : Area). is_rising_from a 0 (map (λ e. (e.0, arc_value e.1)) c.in_ok-entities.entities) ≡ true) (sym area)
    (subst (λ (es : List (Pos × EntityTags)). is_rising_from canvas.area 0 es ≡ true) (sym entities) (entities_rise p 0 0 (volume canvas.area) c.well_formed-2.ensures (omega arith) (omega arith))) in
    search rules

pub returns : goal.returns
returns c =
    let canvas = c.self.inside in
    let p : Painting = record { area = canvas.area; kinds = canvas.kinds; cells = canvas.cells.items } in
    let states : c.in_ok-states.states.items ≡ map (λ (k : BlockContent). k.state) canvas.kinds = c.in_ok-states.ensures ∙ ap (map (λ (k : BlockContent). k.state)) (c.deref.ensures.value ∙ c.in_ok-contents.ensures) in
    let entities : map (λ e. (e.0, arc_value e.1)) c.in_ok-entities.entities ≡ filter_map (entity_here p) (range_with_len 0 (volume p.area)) = subst (λ (q : Painting). map (λ e. (e.0, arc_value e.1)) c.in_ok-entities.entities ≡ filter_map (entity_here q) (range_with_len 0 (volume q.area))) (sym c.self.view_is) c.in_ok-entities.ensures in
    let bare : c.unwrap-grid.result ≡ record { area = canvas.area; kinds = c.in_ok-states.states.items; cells = canvas.cells.items; entities = [] } = search rules in
    let with : c.unwrap.result ≡ record c.unwrap-grid.result { entities = map (λ e. (e.0, arc_value e.1)) c.in_ok-entities.entities } = search rules in
    let is : c.unwrap.result ≡ grid_shown p =
    with
    ∙ ap (λ (g : GridParts). record g { entities = map (λ e. (e.0, arc_value e.1)) c.in_ok-entities.entities }) bare
    ∙ ap (λ (ss : List State). record { area = canvas.area; kinds = ss; cells = canvas.cells.items; entities = map (λ e. (e.0, arc_value e.1)) c.in_ok-entities.entities }) states
    ∙ ap (λ (es : List (Pos × EntityTags)). record (grid_shown p) { entities = es }) entities in
    ap world_of is ∙ grid_shows p c.self.invariant c.well_formed-2.ensures ∙ ap shown c.self.view_is
