use Rattle.std.proofs.Common.{subst, sym}
use Rattle.edit_terms.specs.declared.step.Step.{Step}
use Rattle.command_plan.specs.Footprints.{IsFootprint}
use Rattle.command_plan.proofs.footprint.footprint_of.Goals as goal

pub returns-in-Settled : goal.returns-in-Settled
returns-in-Settled c =
    let area = c.args.area.now in
    subst (λ (s : Step). IsFootprint area s c.untouched.result) (sym c.in-Settled.is) (record { reads = c.untouched.ensures.reads area; writes = c.untouched.ensures.writes area })

pub returns-in-Refused : goal.returns-in-Refused
returns-in-Refused c =
    let area = c.args.area.now in
    subst (λ (s : Step). IsFootprint area s c.untouched-in-Refused.result) (sym c.in-Refused.is) (record { reads = c.untouched-in-Refused.ensures.reads area; writes = c.untouched-in-Refused.ensures.writes area })
