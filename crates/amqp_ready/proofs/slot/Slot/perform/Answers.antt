use Rattle.std.proofs.Common.{refl}
use Rattle.amqp_ready.proofs.Keeping.{kept-still, kept-gone}
use Rattle.amqp_ready.proofs.Turning.{serves-lent}
use Rattle.amqp_ready.proofs.slot.Slot.perform.Goals as goal

pub returns-clause-serves : goal.returns-clause-serves
returns-clause-serves g c =
    let s = c.args.self.now in
    serves-lent (g.S.NonBlocking.remaining s.stream) (g.S.NonBlocking.written s.stream) (g.S.NonBlocking.failed s.stream) s.lent.conn c.perform.new.self.conn s.unfed s.outbox (g.H.Handler.told s.handler) (g.H.Handler.told s.handler)
    (kept-still s.lent.conn c.perform.new.self.conn c.perform.ensures.kept) (kept-gone s.lent.conn c.perform.new.self.conn c.perform.ensures.kept) refl
