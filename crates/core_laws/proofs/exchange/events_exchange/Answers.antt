use Rattle.core_laws.proofs.Commuting.{events_exchange}
use Rattle.core_laws.proofs.exchange.events_exchange.Goals as goal

pub returns : goal.returns
returns c = events_exchange
