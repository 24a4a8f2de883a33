use Rattle.std.proofs.Common.{◌≡◌, ◌<◌, ◌≤◌, ℕ, sym, ap, ◌∙◌, arith, List, ◌∷◌, ◌++◌}
use Rattle.std.specs.Map.{keys_of}
use Rattle.std.specs.declared.sync.Arc.{Arc}
use Rattle.std.specs.declared.alloc.Global.{Global}
use Rattle.std.proofs.lemmas.List.Elements.{All-rest, All-head, All-same, recursion_from_All}
use Rattle.edit_terms.specs.Area.{volume}
use Rattle.edit_terms.specs.Grid.{is_rising_from}
use Rattle.edit_terms.specs.World.{EntityTags}
use Rattle.block_entities.specs.Gathering.{placed, positioned}
use Rattle.block_entities.proofs.Entries.{placed-push}
use Rattle.block_entities.proofs.Places.{is_rising_from-positioned, each_from_zero}
use Rattle.std.proofs.lemmas.List.{append-nil}
use Rattle.block_entities.proofs.gathering.in_order.Goals as goal

pub loop-index-preserved-in-Continue-1 : goal.loop-index-preserved-in-Continue-1
loop-index-preserved-in-Continue-1 c =
    let P : ℕ → Type 0 = λ index. index < volume c.args.area.now in
    record {
      list = c.loop-index.invariant.list ∙ placed-push c.args.area.now c.loop-index.list.items c.push.new.self.items c.loop-index.index-iterator c.next.new.self c.in-Some-position.p c.in-Some.index c.in-Some.entity c.in_ok-push.ensures.items c.in-Some.ensures.steps c.in-Some-position.ensures.value;
      below = All-rest P c.in-Some.index (keys_of c.next.new.self) (keys_of c.loop-index.index-iterator) (ap keys_of c.in-Some.ensures.steps) c.loop-index.invariant.below;
    }

pub loop-index-preserved : goal.loop-index-preserved
loop-index-preserved c =
    let P : ℕ → Type 0 = λ index. index < volume c.args.area.now in
    let all = All-same P (keys_of ((c.in-Some.index, c.in-Some.entity) ∷ c.next.new.self)) (keys_of c.loop-index.index-iterator) (sym (ap keys_of c.in-Some.ensures.steps)) c.loop-index.invariant.below in
    let below : c.in-Some.index < volume c.args.area.now = All-head P c.in-Some.index (keys_of c.next.new.self) all in
    let above : volume c.args.area.now ≤ c.in-Some.index = c.in_default.ensures.value in
    absurd (omega (arith, below, above))

pub returns-clause-rising : goal.returns-clause-rising
returns-clause-rising c =
    let area = c.args.area.now in
    let whole : placed c.from_vec.result ≡ positioned area c.args.found.entries =
    ap placed c.from_vec.ensures ∙ sym (append-nil (placed c.loop-index.list.items))
    ∙ ap (λ (es : List (ℕ × Arc EntityTags Global)). placed c.loop-index.list.items ++ positioned area es) (sym c.in-None.ensures.steps.0)
    ∙ sym c.loop-index.invariant.list in
    let below = recursion_from_All (λ index. index < volume area) (keys_of c.args.found.entries) c.requires.below in
    ap (is_rising_from area 0) whole ∙ is_rising_from-positioned area 0 c.args.found.entries c.well_formed-2.ensures (each_from_zero (keys_of c.args.found.entries)) below c.requires.ordered
