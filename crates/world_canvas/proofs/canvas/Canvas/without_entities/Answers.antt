use Rattle.std.proofs.Common.{◌≡◌, ℕ, List, map, get_or, ap, sym, subst, ◌∙◌}
use Rattle.edit_terms.specs.Area.{Area}
use Rattle.edit_terms.specs.World.{BlockContent, without_entity}
use Rattle.plain_terms.specs.Shown.{IsNumbered}
use Rattle.world_canvas.specs.Numbering.{AreNumbersOf}
use Rattle.world_canvas.specs.Placing.{IsBare}
use Rattle.world_canvas.proofs.EntityLemmas.{bare_numbered, bare_shown}
use Rattle.world_canvas.proofs.canvas.Canvas.without_entities.Goals as goal

pub invariant_of-result : goal.invariant_of-result
invariant_of-result c =
    let g = c.args.grid.now in
    let kinds = c.number_all.new.kinds in
    let numbers = c.in_ok-numbers.numbers.items in
    let contents : c.deref.result.now ≡ map without_entity g.kinds = c.deref.ensures.value ∙ c.in_ok-contents.ensures ∙ ap (map without_entity) c.kinds.ensures in
    let names : AreNumbersOf kinds (map without_entity g.kinds) numbers = subst (λ (cs : List BlockContent). AreNumbersOf kinds cs numbers) contents c.in_ok-numbers.ensures.numbers in
    let cells : c.in_ok-cells.cells.items ≡ map (λ n. get_or numbers n 0) g.cells = rw (c.deref-2.ensures.value, c.cells.ensures.cells) at c.in_ok-cells.ensures in
    subst (λ (a : Area). IsNumbered a kinds c.in_ok-cells.cells.items) (sym c.area.ensures) (subst (λ (ns : List ℕ). IsNumbered g.area kinds ns) (sym cells) (bare_numbered g kinds numbers c.cells.ensures.numbered names))

pub returns : goal.returns
returns c =
    let g = c.args.grid.now in
    let kinds = c.number_all.new.kinds in
    let numbers = c.in_ok-numbers.numbers.items in
    let contents : c.deref.result.now ≡ map without_entity g.kinds = c.deref.ensures.value ∙ c.in_ok-contents.ensures ∙ ap (map without_entity) c.kinds.ensures in
    let names : AreNumbersOf kinds (map without_entity g.kinds) numbers = subst (λ (cs : List BlockContent). AreNumbersOf kinds cs numbers) contents c.in_ok-numbers.ensures.numbers in
    let cells : c.in_ok-cells.cells.items ≡ map (λ n. get_or numbers n 0) g.cells = rw (c.deref-2.ensures.value, c.cells.ensures.cells) at c.in_ok-cells.ensures in
    subst (λ (a : Area). IsBare g (record { area = a; kinds = kinds; cells = c.in_ok-cells.cells.items })) (sym c.area.ensures)
    (subst (λ (ns : List ℕ). IsBare g (record { area = g.area; kinds = kinds; cells = ns })) (sym cells) (bare_shown g kinds numbers c.cells.ensures.numbered names))
