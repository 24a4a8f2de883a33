use Rattle.std.proofs.Common.{◌≡◌, ℕ, ◌<◌, List, length, get_or, subst, sym, ap, ◌∙◌}
use Rattle.std.specs.Prelude.{Result, Ok, Err, OnErr}
use Rattle.std.specs.Vec.{with_items}
use Rattle.std.proofs.lemmas.List.{with_items_is}
use Rattle.plain_terms.specs.Shown.{IsNumbered}
use Rattle.world_canvas.specs.declared.restoring.Side.TheVariants.{After}
use Rattle.world_canvas.specs.Canvas.{Painting, shown, IsSameWorld}
use Rattle.world_canvas.specs.Proposals.{proposals_for}
use Rattle.world_canvas.specs.Changes.{IsRewritten}
use Rattle.world_canvas.specs.Writing.{AreProposed}
use Rattle.world_canvas.proofs.GrowthLemmas.{same_world, grown_numbered}
use Rattle.world_canvas.specs.Restoring.{number_written}
use Rattle.world_canvas.proofs.Finding.{written_numbered}
use Rattle.world_canvas.proofs.WritingLemmas.{written_down}
use Rattle.world_canvas.proofs.canvas.Canvas.write.Goals as goal

on_err : {T E : Type 0} {Q : Type 0} (r : Result T E) → Q → OnErr r Q
on_err (Ok x) q = tt
on_err (Err e) q = q

pub returns-in_err-changes-clause-unchanged : goal.returns-in_err-changes-clause-unchanged
returns-in_err-changes-clause-unchanged c =
    let canvas = c.self.inside in
    on_err c.from_residual.result
    (subst (λ (p : Painting). IsSameWorld p (record { area = canvas.area; kinds = c.changes_of.new.kinds; cells = canvas.cells.items })) c.self.view_is
    (same_world canvas.area canvas.kinds c.changes_of.new.kinds canvas.cells.items c.changes_of.ensures.grown c.self.invariant))

pub invariant_of-self-2 : goal.invariant_of-self-2
invariant_of-self-2 c =
    let canvas = c.self.inside in
    let kinds = c.changes_of.new.kinds in
    let recorded = c.in_ok-changes.changes.items in
    let long : length c.put.new.cells ≡ length canvas.cells.items = c.put.auto.cells ∙ ap (λ (xs : List ℕ). length xs) c.deref_mut.ensures.value in
    let items : (with_items canvas.cells c.put.new.cells).items ≡ c.put.new.cells = with_items_is canvas.cells c.put.new.cells (long ∙ sym canvas.cells.ok.0) in
    let proposed : AreProposed canvas.kinds kinds c.deref.result.now c.args.proposals.now recorded = c.in_ok-changes.ensures.changes in
    let written : (i : ℕ) → i < length canvas.cells.items → get_or c.put.new.cells i 0 ≡ number_written After recorded canvas.cells.items i = rw (c.deref_mut.ensures.value, c.deref-2.ensures.value) at c.put.ensures in
    subst (λ (ns : List ℕ). IsNumbered canvas.area kinds ns) (sym items)
    (written_numbered After canvas.area kinds recorded canvas.cells.items c.put.new.cells (record { long = long; each = written }) proposed.named (grown_numbered canvas.area canvas.kinds kinds canvas.cells.items c.changes_of.ensures.grown c.self.invariant))

pub returns-clause-written : goal.returns-clause-written
returns-clause-written c = λ to proposes.
    let canvas = c.self.inside in
    let kinds = c.changes_of.new.kinds in
    let recorded = c.in_ok-changes.changes.items in
    let long : length c.put.new.cells ≡ length canvas.cells.items = c.put.auto.cells ∙ ap (λ (xs : List ℕ). length xs) c.deref_mut.ensures.value in
    let items : (with_items canvas.cells c.put.new.cells).items ≡ c.put.new.cells = with_items_is canvas.cells c.put.new.cells (long ∙ sym canvas.cells.ok.0) in
    let proposed : AreProposed canvas.kinds kinds canvas.cells.items c.args.proposals.now recorded = subst (λ (ns : List ℕ). AreProposed canvas.kinds kinds ns c.args.proposals.now recorded) c.deref.ensures.value c.in_ok-changes.ensures.changes in
    let written : (i : ℕ) → i < length canvas.cells.items → get_or c.put.new.cells i 0 ≡ number_written After recorded canvas.cells.items i = rw (c.deref_mut.ensures.value, c.deref-2.ensures.value) at c.put.ensures in
    let same = subst (λ (p : Painting). c.args.proposals.now ≡ proposals_for to (shown p)) (sym c.self.view_is) proposes in
    let down = written_down canvas.area canvas.kinds kinds canvas.cells.items c.put.new.cells c.args.proposals.now recorded to c.changes_of.ensures.grown c.self.invariant proposed written same in
    subst (λ (p : Painting). IsRewritten to p (record { area = canvas.area; kinds = kinds; cells = (with_items canvas.cells c.put.new.cells).items }) recorded) c.self.view_is
    (subst (λ (ns : List ℕ). IsRewritten to (record { area = canvas.area; kinds = canvas.kinds; cells = canvas.cells.items }) (record { area = canvas.area; kinds = kinds; cells = ns }) recorded) (sym items) down)
