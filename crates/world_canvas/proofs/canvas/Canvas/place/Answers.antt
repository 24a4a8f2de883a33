use Rattle.std.proofs.Common.{◌≡◌, ℕ, set, Some, true, rules, ap, sym, subst, ◌∙◌}
use Rattle.std.specs.Arc.{arc_value}
use Rattle.edit_terms.specs.Area.{index_of, holds}
use Rattle.edit_terms.specs.World.{BlockContent}
use Rattle.plain_terms.specs.Shown.{content_shown}
use Rattle.world_canvas.specs.Canvas.{Painting}
use Rattle.world_canvas.specs.Numbering.{IsName}
use Rattle.world_canvas.specs.Placing.{IsPlaced}
use Rattle.world_canvas.proofs.EntityLemmas.{placed, placed_numbered}
use Rattle.world_canvas.proofs.canvas.Canvas.place.Goals as goal

pub invariant_of-self-2 : goal.invariant_of-self-2
invariant_of-self-2 c =
    let canvas = c.self.inside in
    placed_numbered canvas.area canvas.kinds c.number.new.kinds canvas.cells.items c.in_ok-number.number c.unwrap-index.result c.self.invariant c.number.ensures.grown c.in_ok-number.ensures.name.within

pub returns : goal.returns
returns c =
    let canvas = c.self.inside in
    let old : Painting = record { area = canvas.area; kinds = canvas.kinds; cells = canvas.cells.items } in
    let at = index_of canvas.area c.args.p.now in
    let entity = arc_value c.args.entity.now in
    let index : c.unwrap-index.result ≡ at = search rules in
    let held : holds canvas.area c.args.p.now ≡ true = subst (λ (p : Painting). holds p.area c.args.p.now ≡ true) (sym c.self.view_is) c.requires in
    let put : BlockContent = record (content_shown canvas.kinds canvas.cells.items at) { entity = Some entity } in
    let content : c.in_ok-content.content ≡ put = c.in_ok-content.ensures ∙ ap (λ (k : BlockContent). record k { entity = Some entity }) (c.content.ensures ∙ ap (λ (p : Painting). content_shown p.kinds p.cells c.unwrap-index.result) (sym c.self.view_is) ∙ ap (content_shown canvas.kinds canvas.cells.items) index) in
    let done = placed old c.number.new.kinds c.in_ok-number.number c.args.p.now entity c.self.invariant held c.number.ensures.grown (subst (λ (k : BlockContent). IsName c.number.new.kinds c.in_ok-number.number k) content c.in_ok-number.ensures.name) in
    subst (λ (p : Painting). IsPlaced p (record { area = canvas.area; kinds = c.number.new.kinds; cells = set canvas.cells.items c.unwrap-index.result c.in_ok-number.number }) c.args.p.now entity) c.self.view_is
    (subst (λ (i : ℕ). IsPlaced old (record { area = canvas.area; kinds = c.number.new.kinds; cells = set canvas.cells.items i c.in_ok-number.number }) c.args.p.now entity) (sym index) done)
