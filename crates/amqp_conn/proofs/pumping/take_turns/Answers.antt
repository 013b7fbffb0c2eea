use Rattle.std.proofs.Common.{◌<◌, ◌-◌, ◌^◌, ℕ, Option, refl, sym, ◌∙◌, subst, arith}
use Rattle.amqp_conn.specs.declared.pumping.PumpEnd.{PumpEnd}
use Rattle.amqp_conn.specs.Pumping.{line}
use Rattle.amqp_conn.specs.Turning.{Turned}
use Rattle.amqp_conn.proofs.Pumps.{turning-none, turning-on, turning-ends, turning-fails}
use Rattle.amqp_conn.proofs.Telling.{tells-then}
use Rattle.amqp_conn.proofs.pumping.take_turns.Goals as goal

pub loop-init : goal.loop-init
loop-init g c =
    let s = g.S.Source.remaining c.args.source.now in
    let k = g.K.Sink.written c.args.sink.now in
    let p = line s c.args.kept.now c.args.conn.now k in
    let q = line s c.feed_kept.new.kept c.feed_kept.new.conn (g.K.Sink.written c.feed_kept.new.sink) in
    (turning-none p q (c.in_default.ensures.fed s), refl, (c.in_default.ensures.failures 0).1, c.feed_kept.ensures.tells)

pub turn-requires-clause-none : goal.turn-requires-clause-none
turn-requires-clause-none g c = c.loop.invariant.0.none

pub turn-requires-clause-reads : goal.turn-requires-clause-reads
turn-requires-clause-reads g c = subst (λ (n : ℕ). n < 2 ^ 64 - 1) (sym c.loop.invariant.1) c.requires.reads

pub turn-requires-clause-writes : goal.turn-requires-clause-writes
turn-requires-clause-writes g c = subst (λ (n : ℕ). n < 2 ^ 64 - 1) (sym c.loop.invariant.2) c.requires.writes

pub returns-in-Ok-Some-clause-runs : goal.returns-in-Ok-Some-clause-runs
returns-in-Ok-Some-clause-runs g c =
    let s = g.S.Source.remaining c.args.source.now in
    let k = g.K.Sink.written c.args.sink.now in
    let p = line s c.args.kept.now c.args.conn.now k in
    let q = line (g.S.Source.remaining c.loop.source) c.loop.kept c.loop.conn (g.K.Sink.written c.loop.sink) in
    let r = line (g.S.Source.remaining c.turn.new.source) c.turn.new.kept c.turn.new.conn (g.K.Sink.written c.turn.new.sink) in
    let more : c.loop.counter < c.args.turns = c.loop-test.true in
    turning-ends c.args.turns c.loop.counter c.in-Ok-Some.end p q r (omega (arith, more)) c.loop.invariant.0 (subst (λ (o : Option PumpEnd). Turned o q r) c.in-Ok-Some.field-0-is c.in-Ok-Some.ensures.turned)

pub returns-in-Ok-Some-clause-tells : goal.returns-in-Ok-Some-clause-tells
returns-in-Ok-Some-clause-tells g c = tells-then c.args.conn.now.core.log.journal c.loop.conn.core.log.journal c.turn.new.conn.core.log.journal (g.H.Hears.heard c.args.each.now) (g.H.Hears.heard c.loop.each) (g.H.Hears.heard c.turn.new.each) c.loop.invariant.3 c.turn.ensures.tells

pub returns-in-Err-turn-clause-runs : goal.returns-in-Err-turn-clause-runs
returns-in-Err-turn-clause-runs g c =
    let s = g.S.Source.remaining c.args.source.now in
    let k = g.K.Sink.written c.args.sink.now in
    let p = line s c.args.kept.now c.args.conn.now k in
    let q = line (g.S.Source.remaining c.loop.source) c.loop.kept c.loop.conn (g.K.Sink.written c.loop.sink) in
    let r = line (g.S.Source.remaining c.turn.new.source) c.turn.new.kept c.turn.new.conn (g.K.Sink.written c.turn.new.sink) in
    turning-fails c.args.turns c.loop.counter c.in-Err-turn.why p q r c.loop-test.true c.loop.invariant.0 c.in-Err-turn.ensures.fails

pub returns-in-Err-turn-clause-tells : goal.returns-in-Err-turn-clause-tells
returns-in-Err-turn-clause-tells g c = tells-then c.args.conn.now.core.log.journal c.loop.conn.core.log.journal c.turn.new.conn.core.log.journal (g.H.Hears.heard c.args.each.now) (g.H.Hears.heard c.loop.each) (g.H.Hears.heard c.turn.new.each) c.loop.invariant.3 c.turn.ensures.tells

pub loop-preserved : goal.loop-preserved
loop-preserved g c =
    let s = g.S.Source.remaining c.args.source.now in
    let k = g.K.Sink.written c.args.sink.now in
    let p = line s c.args.kept.now c.args.conn.now k in
    let q = line (g.S.Source.remaining c.loop.source) c.loop.kept c.loop.conn (g.K.Sink.written c.loop.sink) in
    let r = line (g.S.Source.remaining c.turn.new.source) c.turn.new.kept c.turn.new.conn (g.K.Sink.written c.turn.new.sink) in (
      turning-on c.loop.counter p q r c.loop.invariant.0 (subst (λ (o : Option PumpEnd). Turned o q r) c.in-Ok-None.field-0-is c.in-Ok-None.ensures.turned),
      c.in-Ok-None.ensures.failures.0 ∙ c.loop.invariant.1,
      c.in-Ok-None.ensures.failures.1 ∙ c.loop.invariant.2,
      tells-then c.args.conn.now.core.log.journal c.loop.conn.core.log.journal c.turn.new.conn.core.log.journal (g.H.Hears.heard c.args.each.now) (g.H.Hears.heard c.loop.each) (g.H.Hears.heard c.turn.new.each) c.loop.invariant.3 c.turn.ensures.tells,
    )
