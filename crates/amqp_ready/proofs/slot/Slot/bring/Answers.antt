use Rattle.std.proofs.Common.{Ok, ap}
use Rattle.amqp_ready.specs.Serving.{fault_in}
use Rattle.amqp_ready.specs.Slotting.{parts}
use Rattle.amqp_ready.proofs.Failures.{fails-end, ends-end}
use Rattle.amqp_ready.proofs.Turning.{serves-then, serves-other}
use Rattle.amqp_ready.proofs.slot.Slot.bring.Goals as goal

pub returns-in-Ok-Octets : goal.returns-in-Ok-Octets
returns-in-Ok-Octets g c =
    serves-then (fault_in c.feed_those.result) (parts (g.S.NonBlocking.remaining c.args.self.now.stream) c.args.self.now.unfed c.args.self.now.lent.conn (g.H.Handler.told c.args.self.now.handler) c.args.self.now.outbox (g.S.NonBlocking.written c.args.self.now.stream) (g.S.NonBlocking.failed c.args.self.now.stream)) (parts (g.S.NonBlocking.remaining c.read.new.self.stream) c.read.new.self.unfed c.read.new.self.lent.conn (g.H.Handler.told c.read.new.self.handler) c.read.new.self.outbox (g.S.NonBlocking.written c.read.new.self.stream) (g.S.NonBlocking.failed c.read.new.self.stream)) (parts (g.S.NonBlocking.remaining c.feed_those.new.self.stream) c.feed_those.new.self.unfed c.feed_those.new.self.lent.conn (g.H.Handler.told c.feed_those.new.self.handler) c.feed_those.new.self.outbox (g.S.NonBlocking.written c.feed_those.new.self.stream) (g.S.NonBlocking.failed c.feed_those.new.self.stream)) c.in-Ok-Octets.ensures.serves c.feed_those.ensures

pub returns-in-Ok-End : goal.returns-in-Ok-End
returns-in-Ok-End g c =
    serves-other (fault_in c.at_end.result) (parts (g.S.NonBlocking.remaining c.args.self.now.stream) c.args.self.now.unfed c.args.self.now.lent.conn (g.H.Handler.told c.args.self.now.handler) c.args.self.now.outbox (g.S.NonBlocking.written c.args.self.now.stream) (g.S.NonBlocking.failed c.args.self.now.stream)) (parts (g.S.NonBlocking.remaining c.read.new.self.stream) c.read.new.self.unfed c.read.new.self.lent.conn (g.H.Handler.told c.read.new.self.handler) c.read.new.self.outbox (g.S.NonBlocking.written c.read.new.self.stream) (g.S.NonBlocking.failed c.read.new.self.stream)) c.at_end.ensures.fault (fails-end c.at_end.result (g.S.NonBlocking.failed c.args.self.now.stream) c.at_end.ensures.told) (ends-end c.at_end.result (g.S.NonBlocking.remaining c.read.new.self.stream) c.at_end.ensures.told (c.in-Ok-End.ensures.end (ap Ok c.in-Ok-End.field-0-is))) c.in-Ok-End.ensures.serves
