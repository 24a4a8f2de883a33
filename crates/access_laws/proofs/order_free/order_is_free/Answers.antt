use Rattle.access_laws.proofs.Results.{order_is_free}
use Rattle.access_laws.proofs.order_free.order_is_free.Goals as goal

pub returns : goal.returns
returns c = order_is_free
