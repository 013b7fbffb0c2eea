use Rattle.amqp_deliveries.specs.Held.{items_of}
use Rattle.amqp_deliveries.proofs.tables.Tables.clear.Goals as goal

pub returns : goal.returns
returns c = λ i. record { sent = c.end_all.ensures i; received = items_of (c.end_all-2.ensures i) }
