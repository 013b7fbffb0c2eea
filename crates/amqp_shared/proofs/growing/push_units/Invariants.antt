use Rattle.std.proofs.Common.{◌≡◌, ◌≤◌, ◌<◌, ◌-◌, ◌^◌, length}
use Rattle.rtrb.specs.Ring.{sent}
use Rattle.amqp_journal.specs.Units.{units}
use Rattle.amqp_shared.specs.Ring.{pushes_to}
use Rattle.amqp_shared.specs.Units.{MovesUnits, moved_of}
use Rattle.amqp_shared.proofs.growing.push_units.Given as goal

abbrev pub invariant-loop-conn : goal.invariant-loop-conn
invariant-loop-conn l =
    (sent l.producer ≡ moved_of l.conn)
    × (l.conn.core.log.popped ≤ length (units l.conn.core.log))
    × (length (units l.conn.core.log) < 2 ^ 64)
    × (pushes_to l.producer ≡ pushes_to l.initial.producer)
    × MovesUnits l.initial.conn l.conn

abbrev pub decreases-loop-conn : goal.decreases-loop-conn
decreases-loop-conn l = length (units l.conn.core.log) - l.conn.core.log.popped
