use Rattle.std.proofs.Common.{refl}
use Rattle.amqp_ready.proofs.Seats.{lent-at}
use Rattle.amqp_ready.proofs.slots.Slots.close_one.Goals as goal

pub returns-in-Some-clause-lent : goal.returns-in-Some-clause-lent
returns-in-Some-clause-lent g c =
    let seat = c.in-Some.seat.now in
    lent-at g.S.NonBlocking.remaining g.S.NonBlocking.written g.S.NonBlocking.failed g.H.Handler.told c.args.self.now.seats c.args.key seat
    (record seat { slot = c.close.new.self }) c.in-Some.ensures.value refl c.close.ensures.serves
