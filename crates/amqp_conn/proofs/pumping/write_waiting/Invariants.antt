use Rattle.std.proofs.Common.{◌≡◌, length}
use Rattle.amqp_journal.specs.Units.{waiting}
use Rattle.amqp_conn.specs.Pumping.{OnlyWrote}
use Rattle.amqp_conn.specs.Turning.{WritesOne}
use Rattle.amqp_conn.proofs.pumping.write_waiting.Given as goal

abbrev pub invariant-loop-failed : goal.invariant-loop-failed
invariant-loop-failed g l =
    WritesOne l.initial.conn l.conn (g.K.Sink.written l.initial.sink) (g.K.Sink.written l.sink)
    × (g.K.Sink.failed l.sink ≡ g.K.Sink.failed l.initial.sink)
    × OnlyWrote l.initial.conn l.conn

abbrev pub decreases-loop-failed : goal.decreases-loop-failed
decreases-loop-failed g l = length (waiting l.conn.core.log)
