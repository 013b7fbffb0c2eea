use Rattle.std.proofs.Common.{◌≡◌}
use Rattle.amqp_conn.specs.Pumping.{line, Tells}
use Rattle.amqp_conn.proofs.Pumps.{Turning}
use Rattle.amqp_conn.proofs.pumping.take_turns.Given as goal

abbrev pub invariant-loop : goal.invariant-loop
invariant-loop g l =
    Turning l.counter (line (g.S.Source.remaining l.fn.source) l.fn.kept l.fn.conn (g.K.Sink.written l.fn.sink)) (line (g.S.Source.remaining l.source) l.kept l.conn (g.K.Sink.written l.sink))
    × (g.S.Source.failed l.source ≡ g.S.Source.failed l.fn.source)
    × (g.K.Sink.failed l.sink ≡ g.K.Sink.failed l.fn.sink)
    × Tells l.fn.conn.core.log.journal l.conn.core.log.journal (g.H.Hears.heard l.fn.each) (g.H.Hears.heard l.each)
