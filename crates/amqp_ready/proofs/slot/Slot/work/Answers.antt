use Rattle.amqp_ready.specs.Serving.{fault_in}
use Rattle.amqp_ready.specs.Slotting.{parts}
use Rattle.amqp_ready.proofs.Turning.{serves-then}
use Rattle.amqp_ready.proofs.slot.Slot.work.Goals as goal

pub returns-in-Ok-Feed : goal.returns-in-Ok-Feed
returns-in-Ok-Feed g c =
    serves-then (fault_in c.bring.result) (parts (g.S.NonBlocking.remaining c.args.self.now.stream) c.args.self.now.unfed c.args.self.now.lent.conn (g.H.Handler.told c.args.self.now.handler) c.args.self.now.outbox (g.S.NonBlocking.written c.args.self.now.stream) (g.S.NonBlocking.failed c.args.self.now.stream)) (parts (g.S.NonBlocking.remaining c.begin.new.self.stream) c.begin.new.self.unfed c.begin.new.self.lent.conn (g.H.Handler.told c.begin.new.self.handler) c.begin.new.self.outbox (g.S.NonBlocking.written c.begin.new.self.stream) (g.S.NonBlocking.failed c.begin.new.self.stream)) (parts (g.S.NonBlocking.remaining c.bring.new.self.stream) c.bring.new.self.unfed c.bring.new.self.lent.conn (g.H.Handler.told c.bring.new.self.handler) c.bring.new.self.outbox (g.S.NonBlocking.written c.bring.new.self.stream) (g.S.NonBlocking.failed c.bring.new.self.stream)) c.in-Ok-Feed.ensures c.bring.ensures
