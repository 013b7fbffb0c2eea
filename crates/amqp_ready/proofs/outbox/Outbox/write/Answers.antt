use Rattle.std.proofs.Common.{◌∙◌}
use Rattle.amqp_ready.proofs.Cursor.{passes-then}
use Rattle.amqp_ready.proofs.outbox.Outbox.write.Goals as goal

pub loop-self-preserved : goal.loop-self-preserved
loop-self-preserved g c = (
  passes-then (g.S.NonBlocking.written c.args.stream.now) (g.S.NonBlocking.written c.loop-self.stream) (g.S.NonBlocking.written c.write_once.new.stream) c.args.self.now c.loop-self.self c.write_once.new.self
      c.loop-self.invariant.0 c.write_once.ensures.passes,
  c.write_once.ensures.remaining ∙ c.loop-self.invariant.1,
  c.in-Ok-Octets.ensures.ok ∙ c.loop-self.invariant.2,
)
