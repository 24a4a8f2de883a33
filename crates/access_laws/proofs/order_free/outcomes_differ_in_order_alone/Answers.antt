use Rattle.access_laws.proofs.Outcomes.{outcomes_differ_in_order_alone}
use Rattle.access_laws.proofs.order_free.outcomes_differ_in_order_alone.Goals as goal

pub returns : goal.returns
returns c = outcomes_differ_in_order_alone
