use Rattle.std.proofs.Common.{arith}
use Rattle.std.proofs.Math.ListN.{length-drop}
use Rattle.amqp_messages.proofs.Sequences.{read-more}
use Rattle.amqp_messages.proofs.message.sections_of.Goals as goal

pub loop-from-preserved : goal.loop-from-preserved
loop-from-preserved c = (
  omega (arith, c.loop-from.invariant.0, c.in-Ok.ensures.0, length-drop c.loop-from.from c.args.octets.now),
  read-more c.args.octets.now c.loop-from.from c.in-Ok.used c.loop-from.sections c.push.new.self c.in-Ok.section c.loop-from.invariant.1 c.in-Ok.ensures.0 c.in-Ok.ensures.1 c.in_ok-push-in-Ok.ensures.ok,
)
