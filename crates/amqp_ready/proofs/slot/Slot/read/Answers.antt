use Rattle.amqp_ready.specs.Serving.{fault_in}
use Rattle.amqp_ready.proofs.Failures.{ends-none, ends-read}
use Rattle.amqp_ready.proofs.Turning.{serves-none, serves-read}
use Rattle.amqp_ready.proofs.slot.Slot.read.Goals as goal

pub returns-then-is_held-clause-serves : goal.returns-then-is_held-clause-serves
returns-then-is_held-clause-serves g c = serves-none _

pub returns-clause-serves : goal.returns-clause-serves
returns-clause-serves g c =
    let s = c.args.self.now in
    let failed = g.S.NonBlocking.failed s.stream in
    let failed' = g.S.NonBlocking.failed c.read.new.stream in
    serves-read (fault_in c.as_brought.result) (g.S.NonBlocking.remaining s.stream) (g.S.NonBlocking.remaining c.read.new.stream) (g.S.NonBlocking.written s.stream)
    (g.S.NonBlocking.written c.read.new.stream) failed failed' s.lent.conn s.unfed c.read.new.self s.outbox (g.H.Handler.told s.handler) c.as_brought.ensures.fault c.if-is_held.ensures.none
    c.read.ensures.octets c.read.ensures.written (c.as_brought.ensures.fails failed failed' c.read.ensures.failed)
    (ends-read c.as_brought.result (g.S.NonBlocking.remaining c.read.new.stream) c.as_brought.ensures.told)

pub returns-clause-held : goal.returns-clause-held
returns-clause-held g c = λ e. absurd (c.as_brought.ensures.held e)

pub returns-clause-end : goal.returns-clause-end
returns-clause-end g c = λ e. ends-none c.read.result (g.S.NonBlocking.remaining c.read.new.stream) c.read.ensures.end (c.as_brought.ensures.end e)

pub returns-clause-brings : goal.returns-clause-brings
returns-clause-brings g c = c.as_brought.ensures.brings c.read.new.self c.read.ensures.count c.read.ensures.none
