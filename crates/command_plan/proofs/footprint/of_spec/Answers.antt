use Rattle.std.proofs.Common.{subst, sym}
use Rattle.edit_terms.specs.declared.step.Work.{Work}
use Rattle.command_plan.specs.Footprints.{IsWorkFootprint}
use Rattle.command_plan.proofs.footprint.of_spec.Goals as goal

pub returns-in-Undo : goal.returns-in-Undo
returns-in-Undo c =
    let area = c.args.area.now in
    subst (λ (w : Work). IsWorkFootprint area c.args.spec.now.clip w c.untouched.result) (sym c.in-Undo.is) (record { reads = c.untouched.ensures.reads area; writes = c.untouched.ensures.writes area })

pub returns-in-Redo : goal.returns-in-Redo
returns-in-Redo c =
    let area = c.args.area.now in
    subst (λ (w : Work). IsWorkFootprint area c.args.spec.now.clip w c.untouched-in-Redo.result) (sym c.in-Redo.is) (record { reads = c.untouched-in-Redo.ensures.reads area; writes = c.untouched-in-Redo.ensures.writes area })
