use Rattle.amqp_ready.proofs.Seats.{ticks-at}
use Rattle.amqp_ready.proofs.slots.Slots.act.Goals as goal

pub returns-in-Some-clause-ticks : goal.returns-in-Some-clause-ticks
returns-in-Some-clause-ticks g c =
    ticks-at g.S.NonBlocking.remaining g.S.NonBlocking.written g.S.NonBlocking.failed g.H.Handler.told c.args.self.now.seats c.args.key c.in-Some.seat.now c.act.new.self c.in-Some.ensures.value c.act.ensures.stage c.act.ensures.lent
