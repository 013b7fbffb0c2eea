use Rattle.std.proofs.Common.{◌∙◌}
use Rattle.amqp_ready.proofs.Turning.{sent-then, only-then}
use Rattle.amqp_ready.proofs.sending.flush.Goals as goal

pub returns-in-Ok-Behind-clause-sent : goal.returns-in-Ok-Behind-clause-sent
returns-in-Ok-Behind-clause-sent g c =
    sent-then c.args.conn.now c.loop.conn c.flush_once.new.conn c.args.outbox.now c.loop.outbox c.flush_once.new.outbox (g.S.NonBlocking.written c.args.stream.now) (g.S.NonBlocking.written c.loop.stream)
    (g.S.NonBlocking.written c.flush_once.new.stream) c.loop.invariant.0 c.flush_once.ensures.sent

pub returns-in-Ok-All-clause-sent : goal.returns-in-Ok-All-clause-sent
returns-in-Ok-All-clause-sent g c =
    sent-then c.args.conn.now c.loop.conn c.flush_once.new.conn c.args.outbox.now c.loop.outbox c.flush_once.new.outbox (g.S.NonBlocking.written c.args.stream.now) (g.S.NonBlocking.written c.loop.stream)
    (g.S.NonBlocking.written c.flush_once.new.stream) c.loop.invariant.0 c.flush_once.ensures.sent

pub returns-in-Err-clause-sent : goal.returns-in-Err-clause-sent
returns-in-Err-clause-sent g c =
    sent-then c.args.conn.now c.loop.conn c.flush_once.new.conn c.args.outbox.now c.loop.outbox c.flush_once.new.outbox (g.S.NonBlocking.written c.args.stream.now) (g.S.NonBlocking.written c.loop.stream)
    (g.S.NonBlocking.written c.flush_once.new.stream) c.loop.invariant.0 c.flush_once.ensures.sent

pub loop-preserved : goal.loop-preserved
loop-preserved g c = (
  sent-then c.args.conn.now c.loop.conn c.flush_once.new.conn c.args.outbox.now c.loop.outbox c.flush_once.new.outbox (g.S.NonBlocking.written c.args.stream.now) (g.S.NonBlocking.written c.loop.stream)
      (g.S.NonBlocking.written c.flush_once.new.stream) c.loop.invariant.0 c.flush_once.ensures.sent,
  only-then c.args.conn.now c.loop.conn c.flush_once.new.conn c.loop.invariant.1 c.flush_once.ensures.only,
  c.flush_once.ensures.remaining ∙ c.loop.invariant.2,
  c.in-Ok-More.ensures.ok ∙ c.loop.invariant.3,
)
