use Rattle.std.proofs.Common.{ℕ, List, [], subst}
use Rattle.amqp_conn.specs.Turning.{Took, ClosesWell, StoppedBy}
use Rattle.amqp_conn.proofs.Pumps.{kept-fed, kept-fails}
use Rattle.amqp_conn.proofs.pumping.feed_kept.Goals as goal

pub returns-in_default-clause-fed : goal.returns-in_default-clause-fed
returns-in_default-clause-fed g c =
    let k = g.K.Sink.written c.args.sink.now in
    let took = subst (λ (x : List ℕ). Took c.args.conn.now x c.feed_all.new.conn []) c.rest.ensures c.in_default.ensures.took in
    let well = subst (λ (x : List ℕ). ClosesWell c.args.conn.now x c.feed_all.new.conn) c.rest.ensures c.in_default.ensures.well in
    λ s. kept-fed s k c.args.conn.now c.feed_all.new.conn c.args.kept.now c.clear.new.self c.recall.ensures.some c.clear.ensures took well

pub returns-clause-fails : goal.returns-clause-fails
returns-clause-fails g c =
    let k = g.K.Sink.written c.args.sink.now in
    let k' = g.K.Sink.written c.last_units.new.sink in
    let stopped = subst (λ (x : List ℕ). StoppedBy c.args.conn.now x c.in-Err.stopped.used c.in-Err.stopped.fault c.feed_all.new.conn) c.rest.ensures c.in-Err.ensures.stopped in
    λ s.
    kept-fails c.last_units.result c.in-Err.stopped.fault s k k' c.args.conn.now c.feed_all.new.conn c.last_units.new.conn c.args.kept.now c.skip.new.self c.in-Err.stopped.used
    c.recall.ensures.some c.skip.ensures stopped c.last_units.ensures.last
