use Rattle.amqp_ready.specs.Serving.{fault_in}
use Rattle.amqp_ready.specs.Slotting.{parts}
use Rattle.amqp_ready.proofs.Turning.{serves-then}
use Rattle.amqp_ready.proofs.slot.Slot.turn.Goals as goal

pub returns-in-Ok-clause-serves : goal.returns-in-Ok-clause-serves
returns-in-Ok-clause-serves g c =
    serves-then (fault_in c.finish_after.result) (parts (g.S.NonBlocking.remaining c.args.self.now.stream) c.args.self.now.unfed c.args.self.now.lent.conn (g.H.Handler.told c.args.self.now.handler) c.args.self.now.outbox (g.S.NonBlocking.written c.args.self.now.stream) (g.S.NonBlocking.failed c.args.self.now.stream)) (parts (g.S.NonBlocking.remaining c.work.new.self.stream) c.work.new.self.unfed c.work.new.self.lent.conn (g.H.Handler.told c.work.new.self.handler) c.work.new.self.outbox (g.S.NonBlocking.written c.work.new.self.stream) (g.S.NonBlocking.failed c.work.new.self.stream)) (parts (g.S.NonBlocking.remaining c.finish_after.new.self.stream) c.finish_after.new.self.unfed c.finish_after.new.self.lent.conn (g.H.Handler.told c.finish_after.new.self.handler) c.finish_after.new.self.outbox (g.S.NonBlocking.written c.finish_after.new.self.stream) (g.S.NonBlocking.failed c.finish_after.new.self.stream)) c.in-Ok.ensures c.finish_after.ensures.serves
