use Rattle.amqp_types.proofs.Runs.{next_ascii}
use Rattle.amqp_types.proofs.leaves.is_ascii.Goals as goal

pub loop-byte-preserved : goal.loop-byte-preserved
loop-byte-preserved c = next_ascii c.args.bytes.now c.loop-byte.byte-index c.loop-byte-test.true c.if-byte-ge128.false c.loop-byte.invariant
