use Rattle.std.proofs.Common.{Option, subst}
use Rattle.command_plan.specs.declared.rectangle.Rectangle.{Rectangle}
use Rattle.command_plan.specs.Cuts.{IsCutOf}
use Rattle.command_plan.proofs.chunk_set.of_one.Goals as goal

pub returns-in-None : goal.returns-in-None
returns-in-None c = λ area boxes is. c.nothing.ensures.apart area boxes (subst (λ (o : Option Rectangle). IsCutOf area boxes o) c.in-None.is is)
