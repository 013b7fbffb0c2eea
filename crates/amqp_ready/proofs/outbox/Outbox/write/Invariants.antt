use Rattle.std.proofs.Common.{◌≡◌, length}
use Rattle.amqp_ready.specs.Moving.{PassesOn}
use Rattle.amqp_ready.proofs.outbox.Outbox.write.Given as goal

abbrev pub invariant-loop-self : goal.invariant-loop-self
invariant-loop-self g l =
    PassesOn (g.S.NonBlocking.written l.initial.stream) (g.S.NonBlocking.written l.stream) l.initial.self l.self
    × (g.S.NonBlocking.remaining l.stream ≡ g.S.NonBlocking.remaining l.initial.stream)
    × (g.S.NonBlocking.failed l.stream ≡ g.S.NonBlocking.failed l.initial.stream)

abbrev pub decreases-loop-self : goal.decreases-loop-self
decreases-loop-self g l = length l.self
