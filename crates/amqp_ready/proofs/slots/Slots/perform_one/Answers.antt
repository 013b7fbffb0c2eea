use Rattle.std.proofs.Common.{refl}
use Rattle.amqp_ready.proofs.Seats.{lent-at, performs-at}
use Rattle.amqp_ready.proofs.slots.Slots.perform_one.Goals as goal

pub returns-in-Some-clause-lent : goal.returns-in-Some-clause-lent
returns-in-Some-clause-lent g c =
    let seat = c.in-Some.seat.now in
    lent-at g.S.NonBlocking.remaining g.S.NonBlocking.written g.S.NonBlocking.failed g.H.Handler.told c.args.self.now.seats c.args.key seat
    (record seat { slot = c.perform.new.self }) c.in-Some.ensures.value refl c.perform.ensures.serves

pub returns-in-Some-clause-performs : goal.returns-in-Some-clause-performs
returns-in-Some-clause-performs g c =
    let seat = c.in-Some.seat.now in
    performs-at c.args.self.now.seats c.args.key seat (record seat { slot = c.perform.new.self }) c.args.op c.perform.result c.in-Some.ensures.value c.perform.ensures.performs
