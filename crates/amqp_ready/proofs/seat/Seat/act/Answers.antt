use Rattle.amqp_ready.specs.Seating.{parts_of}
use Rattle.amqp_ready.proofs.Turning.{serves-none}
use Rattle.amqp_ready.proofs.seat.Seat.act.Goals as goal

pub returns-in-Nothing-clause-lent : goal.returns-in-Nothing-clause-lent
returns-in-Nothing-clause-lent g c = serves-none (parts_of g.S.NonBlocking.remaining g.S.NonBlocking.written g.S.NonBlocking.failed g.H.Handler.told c.args.self.now.slot)
