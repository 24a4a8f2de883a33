use Rattle.command_plan.proofs.rectangle.hull.Goals as goal

pub returns-clause-within : goal.returns-clause-within
returns-clause-within c = λ grid first second. record { x = c.hull_run.ensures.within grid.columns first.x second.x; z = c.hull_run-2.ensures.within grid.rows first.z second.z }
