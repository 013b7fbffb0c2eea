use Rattle.std.proofs.Common.{◌≡◌, drop}
use Rattle.amqp_policy.specs.Sent.{brought_number}
use Rattle.amqp_policy.proofs.sent.brought_in.Given as goal

abbrev pub invariant-loop-at : goal.invariant-loop-at
invariant-loop-at g l = brought_number l.left (drop l.at l.doubts) ≡ brought_number l.place l.doubts
