use Rattle.std.proofs.Common.{◌≡◌}
use Rattle.amqp_conn.specs.Pumping.{OnlyWrote}
use Rattle.amqp_ready.specs.Slotting.{Sent}
use Rattle.amqp_ready.proofs.sending.flush.Given as goal

abbrev pub invariant-loop : goal.invariant-loop
invariant-loop g l =
    Sent l.fn.conn l.conn l.fn.outbox l.outbox (g.S.NonBlocking.written l.fn.stream) (g.S.NonBlocking.written l.stream)
    × OnlyWrote l.fn.conn l.conn
    × (g.S.NonBlocking.remaining l.stream ≡ g.S.NonBlocking.remaining l.fn.stream)
    × (g.S.NonBlocking.failed l.stream ≡ g.S.NonBlocking.failed l.fn.stream)
