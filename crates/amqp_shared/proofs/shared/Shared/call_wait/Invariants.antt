use Rattle.std.proofs.Common.{◌≡◌}
use Rattle.amqp_conn.specs.Calling.{due_in}
use Rattle.amqp_shared.specs.Session.{IsDueAtOnce}
use Rattle.amqp_shared.proofs.shared.Shared.call_wait.Given as goal

abbrev pub invariant-loop : goal.invariant-loop
invariant-loop g l =
    (l.pass ≡ l.initial.pass)
    × (IsDueAtOnce (due_in l.initial.guard.conn.core.phase l.initial.guard.conn.core.log l.fn.op)
    → l.guard.conn ≡ l.initial.guard.conn)
