use Rattle.amqp_types.proofs.Runs.{next_ascii}
use Rattle.amqp_halves.proofs.halves.are_ascii.Goals as goal

pub loop-octet-preserved : goal.loop-octet-preserved
loop-octet-preserved c = next_ascii c.args.octets.now c.loop-octet.octet-index c.loop-octet-test.true c.if-octet-ge128.false c.loop-octet.invariant
