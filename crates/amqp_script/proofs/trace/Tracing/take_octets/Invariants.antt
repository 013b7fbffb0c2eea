use Rattle.std.proofs.Common.{length}
use Rattle.amqp_script.proofs.trace.Tracing.take_octets.Given as goal

abbrev pub decreases-loop-rest : goal.decreases-loop-rest
decreases-loop-rest g l = length l.rest
