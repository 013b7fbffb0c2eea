use Rattle.std.proofs.Common.{take}
use Rattle.amqp_waiting.specs.Kept.{AreFirst}
use Rattle.amqp_waiting.proofs.places.first_places.Given as goal

abbrev pub invariant-loop-place : goal.invariant-loop-place
invariant-loop-place l = AreFirst l.places.entries (take l.place l.told)
