use Rattle.std.proofs.Common.{◌≡◌, ◌+◌, ◌≤◌, ◌++◌, length, vec_len, vec_capacity}
use Rattle.amqp_journal.specs.Units.{units}
use Rattle.amqp_shared.specs.Units.{backlog_of, unmoved}
use Rattle.amqp_shared.proofs.closing.empty_backlog.Given as goal

abbrev pub invariant-loop-i : goal.invariant-loop-i
invariant-loop-i l =
    (l.left.items ++ backlog_of l.conn ≡ l.initial.left.items ++ backlog_of l.initial.conn)
    × (l.conn.core.log.popped + l.count ≡ length (units l.conn.core.log) + l._i)
    × (vec_len l.left + l.count ≤ vec_capacity l.left + l._i)
    × (unmoved l.initial.conn l.conn ≡ l.initial.conn)
