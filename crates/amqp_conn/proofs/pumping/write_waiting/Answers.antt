use Rattle.std.proofs.Common.{Bool, refl, ◌∙◌, subst}
use Rattle.std.specs.Bool.{OnTrue}
use Rattle.amqp_conn.specs.Turning.{WritesOne}
use Rattle.amqp_conn.proofs.Pumps.{writes-none, writes-then, only-then, write-fails-then}
use Rattle.amqp_conn.proofs.pumping.write_waiting.Goals as goal

pub loop-failed-init : goal.loop-failed-init
loop-failed-init g c = (writes-none (g.K.Sink.written c.args.sink.now) c.args.conn.now c.recall.ensures.some, refl, refl)

pub loop-failed-preserved : goal.loop-failed-preserved
loop-failed-preserved g c =
    let first = g.K.Sink.written c.args.sink.now in
    let old = g.K.Sink.written c.loop-failed.sink in
    let new = g.K.Sink.written c.write_unit.new.sink in
    let P : Type 0 = WritesOne c.loop-failed.conn c.write_unit.new.conn old new in
    let one : P = subst (λ (b : Bool). OnTrue b P) c.in-Ok-true.field-0-test c.in-Ok-true.ensures.writes in (
      writes-then first old new c.args.conn.now c.loop-failed.conn c.write_unit.new.conn c.loop-failed.invariant.0 one,
      c.in-Ok-true.ensures.ok ∙ c.loop-failed.invariant.1,
      only-then c.args.conn.now c.loop-failed.conn c.write_unit.new.conn c.loop-failed.invariant.2 c.write_unit.ensures.only,
    )

pub returns-in-Err-clause-fails : goal.returns-in-Err-clause-fails
returns-in-Err-clause-fails g c =
    write-fails-then (g.K.Sink.written c.args.sink.now) (g.K.Sink.written c.loop-failed.sink) (g.K.Sink.written c.write_unit.new.sink) c.args.conn.now c.loop-failed.conn c.write_unit.new.conn
    c.loop-failed.invariant.0 c.in-Err.ensures.fails
