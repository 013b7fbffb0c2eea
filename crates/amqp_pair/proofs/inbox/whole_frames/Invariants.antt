use Rattle.std.proofs.Common.{◌≤◌, length}
use Rattle.amqp_pair.proofs.inbox.whole_frames.Given as goal

abbrev pub invariant-loop-size : goal.invariant-loop-size
invariant-loop-size l = length l.rest ≤ length l.fn.octets

abbrev pub decreases-loop-size : goal.decreases-loop-size
decreases-loop-size l = length l.rest
