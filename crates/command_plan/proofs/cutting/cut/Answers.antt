use Rattle.std.proofs.Common.{◌≡◌, ◌<◌, ◌∙◌, sym, subst}
use Rattle.region_shapes.specs.declared.interval.Interval.{Interval}
use Rattle.region_shapes.specs.Interval.{common, size}
use Rattle.region_shapes.proofs.ExtentLemmas.{as_boxes, size_of_empty, size_of_some}
use Rattle.command_plan.specs.Cuts.{IsRunOf}
use Rattle.command_plan.proofs.ChunkLemmas.{cover, apart_x, apart_y, apart_z}
use Rattle.command_plan.proofs.cutting.cut.Goals as goal

pub returns-then-is_empty : goal.returns-then-is_empty
returns-then-is_empty c = λ box is.
    let area = c.args.area.now in
    let none = subst (λ (i : Interval). size i ≡ 0) c.common-heights.ensures.value (size_of_empty c.common-heights.result (sym c.is_empty.ensures ∙ c.if-is_empty.true)) in
    apart_y area box (as_boxes (λ e f. size (common e.y f.y) ≡ 0) _ _ box area is c.extent_of-own.ensures.value none)

pub returns-in_default : goal.returns-in_default
returns-in_default c = λ box is.
    let area = c.args.area.now in
    apart_x area box (as_boxes (λ e f. size (common e.x f.x) ≡ 0) _ _ box area is c.extent_of-own.ensures.value c.in_default.ensures)

pub returns-in_default-cut_run : goal.returns-in_default-cut_run
returns-in_default-cut_run c = λ box is.
    let area = c.args.area.now in
    apart_z area box (as_boxes (λ e f. size (common e.z f.z) ≡ 0) _ _ box area is c.extent_of-own.ensures.value c.in_default-cut_run.ensures)

pub returns : goal.returns
returns c = λ box is.
    let area = c.args.area.now in
    let own = c.extent_of-own.ensures.value in
    let some = subst (λ (i : Interval). 0 < size i) c.common-heights.ensures.value (size_of_some c.common-heights.result (sym c.is_empty.ensures ∙ c.if-is_empty.false)) in
    cover area box c.in-Some.x c.in-Some-cut_run.z
    (as_boxes (λ e f. IsRunOf c.in-Some.x (common e.x f.x) f.x) _ _ box area is own c.in-Some.ensures)
    (as_boxes (λ e f. 0 < size (common e.y f.y)) _ _ box area is own some)
    (as_boxes (λ e f. IsRunOf c.in-Some-cut_run.z (common e.z f.z) f.z) _ _ box area is own c.in-Some-cut_run.ensures)
