use Rattle.std.proofs.Common.{◌≡◌, drop}
use Rattle.amqp_waiting.specs.Waiting.{has_twice}
use Rattle.amqp_waiting.proofs.item.has_twice.Given as goal

abbrev pub invariant-loop-place : goal.invariant-loop-place
invariant-loop-place l = has_twice (drop l.place l.items) ≡ has_twice l.items
