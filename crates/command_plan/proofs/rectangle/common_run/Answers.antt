use Rattle.command_plan.proofs.RectangleLemmas.{common_test, common_order}
use Rattle.command_plan.proofs.rectangle.common_run.Goals as goal

pub returns-clause-within : goal.returns-clause-within
returns-clause-within c = λ whole first second.
    let a = c.args.a.now in let b = c.args.b.now in
    record {
      order = c.greater.ensures.first;
      within = common_order a.from a.to b.from b.to c.greater-from.result c.lesser-end.result c.greater.result whole c.greater-from.ensures.one c.lesser-end.ensures.one c.greater.ensures.first c.greater.ensures.one
          first.order first.within second.order second.within;
    }

pub returns-clause-exact : goal.returns-clause-exact
returns-clause-exact c = λ column.
    let a = c.args.a.now in let b = c.args.b.now in
    common_test a.from a.to b.from b.to c.greater-from.result c.lesser-end.result c.greater.result column
    c.greater-from.ensures.first c.greater-from.ensures.second c.greater-from.ensures.one c.lesser-end.ensures.first c.lesser-end.ensures.second c.lesser-end.ensures.one
    c.greater.ensures.first c.greater.ensures.second c.greater.ensures.one
