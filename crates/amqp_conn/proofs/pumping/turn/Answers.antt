use Rattle.std.proofs.Common.{◌≡◌, ◌<◌, length, ◌∙◌, arith}
use Rattle.amqp_conn.specs.Pumping.{IsPiece}
use Rattle.amqp_conn.proofs.Pumps.{some-count, turn-read-fails, turn-ends, turn-fed, turn-fails}
use Rattle.amqp_conn.proofs.pumping.turn.Goals as goal

pub returns-in_default-refill-clause-fails : goal.returns-in_default-refill-clause-fails
returns-in_default-refill-clause-fails g c =
    turn-read-fails (g.S.Source.remaining c.args.source.now) (g.S.Source.remaining c.refill.new.source) (g.K.Sink.written c.args.sink.now) (g.K.Sink.written c.write_waiting.new.sink)
    c.args.conn.now c.write_waiting.new.conn c.args.kept.now c.refill.new.self c.in-Ok.ensures.writes c.recall.ensures.some c.requires.none c.in_default-refill.ensures.still.0
    c.in_default-refill.ensures.still.1 c.in-Ok.ensures.went c.if-is_closed.ensures.open

pub returns-then-count-eq0-clause-turned : goal.returns-then-count-eq0-clause-turned
returns-then-count-eq0-clause-turned g c =
    let zero : c.in-Ok-refill.count ≡ 0 = c.if-count-eq0.true in
    turn-ends (g.S.Source.remaining c.args.source.now) (g.S.Source.remaining c.refill.new.source) (g.K.Sink.written c.args.sink.now) (g.K.Sink.written c.write_waiting.new.sink)
    c.args.conn.now c.write_waiting.new.conn c.args.kept.now c.refill.new.self c.in-Ok.ensures.writes c.recall.ensures.some c.requires.none (c.in-Ok-refill.ensures.count ∙ zero)
    c.in-Ok-refill.ensures.read c.in-Ok.ensures.went c.if-is_closed.ensures.open (c.in-Ok-refill.ensures.end zero)

pub returns-in-Ok-feed_kept-clause-turned : goal.returns-in-Ok-feed_kept-clause-turned
returns-in-Ok-feed_kept-clause-turned g c =
    let n : length c.refill.new.self ≡ c.in-Ok-refill.count = c.in-Ok-refill.ensures.count in
    let some : 0 < c.in-Ok-refill.count = some-count c.in-Ok-refill.count c.if-count-eq0.false in
    let most = c.refill.ensures.most in
    let piece : IsPiece c.refill.new.self = (omega (arith, n, some), most) in
    turn-fed (g.S.Source.remaining c.args.source.now) (g.S.Source.remaining c.refill.new.source) (g.K.Sink.written c.args.sink.now) (g.K.Sink.written c.write_waiting.new.sink)
    (g.K.Sink.written c.feed_kept.new.sink) c.args.conn.now c.write_waiting.new.conn c.feed_kept.new.conn c.args.kept.now c.refill.new.self c.feed_kept.new.kept c.in-Ok.ensures.writes
    c.recall.ensures.some c.requires.none piece c.in-Ok-refill.ensures.read c.if-is_closed.ensures.open
    (c.in-Ok-feed_kept.ensures.fed (g.S.Source.remaining c.refill.new.source))

pub returns-in-Ok-feed_kept-clause-failures : goal.returns-in-Ok-feed_kept-clause-failures
returns-in-Ok-feed_kept-clause-failures g c = (c.in-Ok-refill.ensures.ok, (c.in-Ok-feed_kept.ensures.failures 0).1 ∙ c.in-Ok.ensures.ok)

pub returns-in-Err-clause-fails : goal.returns-in-Err-clause-fails
returns-in-Err-clause-fails g c =
    let n : length c.refill.new.self ≡ c.in-Ok-refill.count = c.in-Ok-refill.ensures.count in
    let some : 0 < c.in-Ok-refill.count = some-count c.in-Ok-refill.count c.if-count-eq0.false in
    let most = c.refill.ensures.most in
    let piece : IsPiece c.refill.new.self = (omega (arith, n, some), most) in
    turn-fails c.in-Err.why (g.S.Source.remaining c.args.source.now) (g.S.Source.remaining c.refill.new.source) (g.K.Sink.written c.args.sink.now) (g.K.Sink.written c.write_waiting.new.sink)
    (g.K.Sink.written c.feed_kept.new.sink) c.args.conn.now c.write_waiting.new.conn c.feed_kept.new.conn c.args.kept.now c.refill.new.self c.feed_kept.new.kept c.in-Ok.ensures.writes
    c.recall.ensures.some c.requires.none piece c.in-Ok-refill.ensures.read (c.in-Err.ensures.fails (g.S.Source.remaining c.refill.new.source))
