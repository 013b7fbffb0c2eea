use Rattle.std.proofs.Common.{◌-◌, ◌≤◌, length, take}
use Rattle.amqp_messages.specs.Messages.{AreSections, seen_all}
use Rattle.amqp_messages.proofs.message.sections_of.Given as goal

abbrev pub invariant-loop-from : goal.invariant-loop-from
invariant-loop-from l = (l.from ≤ length l.octets) × AreSections (seen_all l.sections) (take l.from l.octets)

abbrev pub decreases-loop-from : goal.decreases-loop-from
decreases-loop-from l = length l.octets - l.from
