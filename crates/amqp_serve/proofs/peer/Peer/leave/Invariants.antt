use Rattle.std.proofs.Common.{◌≡◌}
use Rattle.amqp_ready.specs.Lending.{kept}
use Rattle.amqp_serve.proofs.peer.Peer.leave.Given as goal

abbrev pub invariant-loop : goal.invariant-loop
invariant-loop l = kept l.conn.conn ≡ kept l.initial.conn.conn
