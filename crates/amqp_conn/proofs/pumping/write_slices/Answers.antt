use Rattle.std.proofs.Common.{ℕ, List, subst}
use Rattle.amqp_conn.specs.Pumping.{AppendsFront}
use Rattle.amqp_conn.proofs.Fronts.{front_behind}
use Rattle.amqp_conn.proofs.pumping.write_slices.Goals as goal

pub returns-in-Err-write_all-clause-front : goal.returns-in-Err-write_all-clause-front
returns-in-Err-write_all-clause-front g c =
    let old = g.K.Sink.written c.args.sink.now in
    let kept = g.K.Sink.written c.write_all.new.self in
    let new = g.K.Sink.written c.write_all-2.new.self in
    subst (λ (x : List ℕ). AppendsFront old new x) c.slices.ensures (front_behind old kept new c.slices.result.0.now c.slices.result.1.now c.in-Ok.ensures.octets c.in-Err-write_all.ensures.front)
