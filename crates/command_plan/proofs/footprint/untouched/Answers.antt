use Rattle.command_plan.proofs.footprint.untouched.Goals as goal

pub returns : goal.returns
returns c = record { reads = λ area. c.nothing.ensures.nothing area; writes = λ area. c.nothing-2.ensures.nothing area }
