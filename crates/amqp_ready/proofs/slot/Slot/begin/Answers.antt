use Rattle.amqp_ready.specs.Serving.{fault_in}
use Rattle.amqp_ready.specs.Slotting.{parts}
use Rattle.amqp_ready.proofs.Turning.{serves-then}
use Rattle.amqp_ready.proofs.slot.Slot.begin.Goals as goal

pub returns-in-Ok : goal.returns-in-Ok
returns-in-Ok g c =
    serves-then (fault_in c.feed.result) (parts (g.S.NonBlocking.remaining c.args.self.now.stream) c.args.self.now.unfed c.args.self.now.lent.conn (g.H.Handler.told c.args.self.now.handler) c.args.self.now.outbox (g.S.NonBlocking.written c.args.self.now.stream) (g.S.NonBlocking.failed c.args.self.now.stream)) (parts (g.S.NonBlocking.remaining c.flush.new.self.stream) c.flush.new.self.unfed c.flush.new.self.lent.conn (g.H.Handler.told c.flush.new.self.handler) c.flush.new.self.outbox (g.S.NonBlocking.written c.flush.new.self.stream) (g.S.NonBlocking.failed c.flush.new.self.stream)) (parts (g.S.NonBlocking.remaining c.feed.new.self.stream) c.feed.new.self.unfed c.feed.new.self.lent.conn (g.H.Handler.told c.feed.new.self.handler) c.feed.new.self.outbox (g.S.NonBlocking.written c.feed.new.self.stream) (g.S.NonBlocking.failed c.feed.new.self.stream)) c.in-Ok.ensures.serves c.feed.ensures.serves
