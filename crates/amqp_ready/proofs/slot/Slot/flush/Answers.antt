use Rattle.std.proofs.Common.{None, Some}
use Rattle.amqp_ready.specs.declared.fault.SlotFault.TheVariants as fault
use Rattle.amqp_ready.proofs.Turning.{serves-sent}
use Rattle.amqp_ready.proofs.slot.Slot.flush.Goals as goal

pub returns-in-Ok-clause-serves : goal.returns-in-Ok-clause-serves
returns-in-Ok-clause-serves g c =
    let s = c.args.self.now in
    serves-sent None (g.S.NonBlocking.remaining s.stream) (g.S.NonBlocking.remaining c.flush-answer.new.stream) (g.S.NonBlocking.written s.stream) (g.S.NonBlocking.written c.flush-answer.new.stream)
    (g.S.NonBlocking.failed s.stream) (g.S.NonBlocking.failed c.flush-answer.new.stream) s.lent.conn c.flush-answer.new.conn s.unfed s.outbox c.flush-answer.new.outbox (g.H.Handler.told s.handler) tt
    c.flush-answer.ensures.remaining c.flush-answer.ensures.sent c.flush-answer.ensures.only c.in-Ok.ensures.ok tt

pub returns-in-Err-clause-serves : goal.returns-in-Err-clause-serves
returns-in-Err-clause-serves g c =
    let s = c.args.self.now in
    serves-sent (Some fault.Write) (g.S.NonBlocking.remaining s.stream) (g.S.NonBlocking.remaining c.flush-answer.new.stream) (g.S.NonBlocking.written s.stream) (g.S.NonBlocking.written c.flush-answer.new.stream)
    (g.S.NonBlocking.failed s.stream) (g.S.NonBlocking.failed c.flush-answer.new.stream) s.lent.conn c.flush-answer.new.conn s.unfed s.outbox c.flush-answer.new.outbox (g.H.Handler.told s.handler) tt
    c.flush-answer.ensures.remaining c.flush-answer.ensures.sent c.flush-answer.ensures.only c.in-Err.ensures.failed tt
