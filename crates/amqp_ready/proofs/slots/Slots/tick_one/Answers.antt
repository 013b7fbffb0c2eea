use Rattle.amqp_ready.specs.Seating.{held}
use Rattle.amqp_ready.proofs.Seats.{ticks-none}
use Rattle.amqp_ready.proofs.slots.Slots.tick_one.Goals as goal

pub returns-then-eq-clause-ticks : goal.returns-then-eq-clause-ticks
returns-then-eq-clause-ticks g c =
    ticks-none g.S.NonBlocking.remaining g.S.NonBlocking.written g.S.NonBlocking.failed g.H.Handler.told (held c.args.self.now.seats c.args.key) (held c.look-due.new.self.seats c.args.key) (c.look-due.ensures.stay c.args.key)
