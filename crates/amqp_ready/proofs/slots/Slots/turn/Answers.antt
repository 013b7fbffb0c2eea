use Rattle.amqp_ready.proofs.Seats.{over-at, turns-at}
use Rattle.amqp_ready.proofs.slots.Slots.turn.Goals as goal

pub returns-in-Some-clause-turns : goal.returns-in-Some-clause-turns
returns-in-Some-clause-turns g c =
    turns-at g.S.NonBlocking.remaining g.S.NonBlocking.written g.S.NonBlocking.failed g.H.Handler.told c.args.self.now.seats c.args.key c.in-Some.seat.now c.turn.new.self c.in-Some.ensures.value c.turn.ensures.turns

pub returns-in-Some-clause-over : goal.returns-in-Some-clause-over
returns-in-Some-clause-over g c = λ over. over-at c.args.self.now.seats c.args.key c.in-Some.seat.now c.turn.new.self c.in-Some.ensures.value (c.turn.ensures.over over)
