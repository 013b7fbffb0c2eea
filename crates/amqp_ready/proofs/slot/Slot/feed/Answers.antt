use Rattle.amqp_ready.specs.Serving.{fault_in}
use Rattle.amqp_ready.proofs.Turning.{serves-fed}
use Rattle.amqp_ready.proofs.slot.Slot.feed.Goals as goal

pub returns-clause-serves : goal.returns-clause-serves
returns-clause-serves g c =
    let s = c.args.self.now in
    serves-fed (fault_in c.feed-answer.result) (g.S.NonBlocking.remaining s.stream) (g.S.NonBlocking.written s.stream) (g.S.NonBlocking.failed s.stream) s.lent.conn c.feed-answer.new.lent.conn s.unfed c.feed-answer.new.unfed s.outbox
    (g.H.Handler.told s.handler) (g.H.Handler.told c.feed-answer.new.handler) c.feed-answer.ensures.feeds c.feed-answer.ensures.gone
    c.feed-answer.ensures.told
