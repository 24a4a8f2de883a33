use Rattle.serial_model.specs.Recorded.{task_recorded}
use Rattle.serial_model.proofs.CarryingLemmas.{settled_is_nothing, refused_is_nothing}
use Rattle.serial_model.proofs.carrying.carry_out.Goals as goal

pub returns-in-Settled : goal.returns-in-Settled
returns-in-Settled c =
    settled_is_nothing (task_recorded c.args.canvas.now c.args.recorded.now c.args.seed c.args.ticket) c.args.step.now c.args.canvas.now c.no_changes.result.items c.no_changes.ensures c.in-Settled.is

pub returns-in-Refused : goal.returns-in-Refused
returns-in-Refused c =
    refused_is_nothing (task_recorded c.args.canvas.now c.args.recorded.now c.args.seed c.args.ticket) c.args.step.now c.args.canvas.now c.no_changes-in-Refused.result.items c.in-Refused.field-0 c.no_changes-in-Refused.ensures c.in-Refused.is
