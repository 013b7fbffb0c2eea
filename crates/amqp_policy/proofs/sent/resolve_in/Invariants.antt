use Rattle.std.proofs.Common.{◌≡◌, ◌++◌, map, take, drop}
use Rattle.amqp_policy.specs.Sent.{resolved_if}
use Rattle.amqp_policy.proofs.sent.resolve_in.Given as goal

abbrev pub invariant-loop-place : goal.invariant-loop-place
invariant-loop-place g l = l.doubts ≡ map (resolved_if l.number) (take l.place l.initial.doubts) ++ drop l.place l.initial.doubts
