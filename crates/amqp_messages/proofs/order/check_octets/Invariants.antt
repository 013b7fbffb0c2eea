use Rattle.std.proofs.Common.{◌-◌, length}
use Rattle.amqp_messages.proofs.Sequences.{Begun}
use Rattle.amqp_messages.proofs.order.check_octets.Given as goal

abbrev pub invariant-loop-at : goal.invariant-loop-at
invariant-loop-at l = Begun l.octets l.at l.last l.has_body

abbrev pub decreases-loop-at : goal.decreases-loop-at
decreases-loop-at l = length l.octets - l.at
