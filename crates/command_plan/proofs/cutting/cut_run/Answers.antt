use Rattle.std.proofs.Common.{◌≡◌, ◌+◌, ℕ, ap, ◌∙◌, sym, subst}
use Rattle.region_shapes.specs.declared.interval.Interval.{Interval}
use Rattle.region_shapes.specs.Interval.{size}
use Rattle.region_shapes.proofs.ExtentLemmas.{size_of_empty, size_of_some}
use Rattle.command_plan.specs.declared.rectangle.Run.{Run}
use Rattle.command_plan.specs.Cuts.{IsRunOf}
use Rattle.command_plan.proofs.CutLemmas.{run_end, some_order}
use Rattle.command_plan.proofs.cutting.cut_run.Goals as goal

pub returns-then-is_empty : goal.returns-then-is_empty
returns-then-is_empty c =
    subst (λ (i : Interval). size i ≡ 0) c.common-shared.ensures.value (size_of_empty c.common-shared.result (sym c.is_empty.ensures ∙ c.if-is_empty.true))

pub returns : goal.returns
returns c =
    let shared = c.common-shared.result in
    let own = c.args.own.now in
    let made : Run = record { from = c.columns_to_first.result; to = c.columns_to_last.result + 1 } in
    let full = sym c.is_empty.ensures ∙ c.if-is_empty.false in
    let is : IsRunOf made shared own = record {
      some = size_of_some shared full;
      from = c.columns_to_first.ensures.value;
      to = ap (λ (n : ℕ). n + 1) c.columns_to_last.ensures.value ∙ run_end shared own c.common-shared.ensures.from (some_order shared full);
    } in
    subst (λ (i : Interval). IsRunOf made i own) c.common-shared.ensures.value is
