use Rattle.amqp_conn.proofs.Pumps.{carries-unit, breaks-unit, pops-less}
use Rattle.amqp_conn.proofs.pumping.write_unit.Goals as goal

pub returns-in-Ok-clause-writes : goal.returns-in-Ok-clause-writes
returns-in-Ok-clause-writes g c =
    let old = g.K.Sink.written c.args.sink.now in
    let new = g.K.Sink.written c.write_slices.new.sink in
    λ source x. carries-unit source old new c.args.conn.now c.pop_unit.new.self x c.in-Some.unit.bytes c.recall.ensures.some c.in-Some.ensures.some.1 c.in-Some.ensures.some.2 c.in-Ok.ensures.octets

pub returns-in-Ok-clause-less : goal.returns-in-Ok-clause-less
returns-in-Ok-clause-less g c = pops-less c.args.conn.now c.pop_unit.new.self c.in-Some.unit.bytes c.in-Some.ensures.some.1 c.in-Some.ensures.some.2

pub returns-clause-fails : goal.returns-clause-fails
returns-clause-fails g c =
    let old = g.K.Sink.written c.args.sink.now in
    let new = g.K.Sink.written c.write_slices.new.sink in
    λ source x. breaks-unit source old new c.args.conn.now c.pop_unit.new.self x c.in-Some.unit.bytes c.recall.ensures.some c.in-Some.ensures.some.1 c.in-Some.ensures.some.2 c.in-Err.ensures.front
