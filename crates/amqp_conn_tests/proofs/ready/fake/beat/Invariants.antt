use Rattle.std.proofs.Common.{◌≡◌}
use Rattle.amqp_ready.specs.Lending.{kept}
use Rattle.amqp_conn_tests.proofs.ready.fake.beat.Given as goal

abbrev pub invariant-loop : goal.invariant-loop
invariant-loop l = kept l.conn.conn ≡ kept l.fn.conn.conn
