use Rattle.std.proofs.Common.{◌+◌, ◌≤◌, length, drop}
use Rattle.amqp_conn.specs.Turning.{room, Took, ClosesWell}
use Rattle.amqp_conn.specs.Pumping.{Tells}
use Rattle.amqp_conn.proofs.pumping.feed_all.Given as goal

abbrev pub invariant-loop-conn : goal.invariant-loop-conn
invariant-loop-conn g l =
    (l.used ≤ length l.piece)
    × Took l.initial.conn l.piece l.conn (drop l.used l.piece)
    × ClosesWell l.initial.conn l.piece l.conn
    × Tells l.initial.conn.core.log.journal l.conn.core.log.journal (g.H.Hears.heard l.initial.each) (g.H.Hears.heard l.each)

abbrev pub decreases-loop-conn : goal.decreases-loop-conn
decreases-loop-conn g l = length (drop l.used l.piece) + room l.conn
