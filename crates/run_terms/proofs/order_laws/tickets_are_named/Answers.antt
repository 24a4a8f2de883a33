use Rattle.run_terms.proofs.Tickets.{ticket_of-source_of}
use Rattle.run_terms.proofs.order_laws.tickets_are_named.Goals as goal

pub returns : goal.returns
returns c = ticket_of-source_of
