use Rattle.std.proofs.Common.{◌≡◌, ◌++◌, map, take, drop}
use Rattle.amqp_policy.specs.Sent.{brought}
use Rattle.amqp_policy.proofs.sent.bring_all.Given as goal

abbrev pub invariant-loop-place : goal.invariant-loop-place
invariant-loop-place g l = l.doubts ≡ map brought (take l.place l.initial.doubts) ++ drop l.place l.initial.doubts
