use Rattle.std.proofs.Common.{◌-◌, ◌≢◌, length, take, drop, refl, inl, arith}
use Rattle.amqp_conn.specs.declared.phase.Phase.TheVariants as phase
use Rattle.amqp_conn.specs.Feeding.{IsFed}
use Rattle.amqp_conn.proofs.Loops.{took-none, took-on, took-all, used-on, stopped-by, closed-by}
use Rattle.amqp_conn.proofs.Telling.{rest_taken, tells-none, tells-then}
use Rattle.amqp_conn.proofs.pumping.feed_all.Goals as goal

pub loop-conn-init : goal.loop-conn-init
loop-conn-init g c = (
  omega arith,
  took-none c.args.conn.now c.args.piece.now,
  λ closed. inl closed,
  tells-none c.args.conn.now.core.log.journal c.args.conn.now.core.log.journal (g.H.Hears.heard c.args.each.now) refl,
)

pub loop-conn-preserved : goal.loop-conn-preserved
loop-conn-preserved g c =
    let piece = c.args.piece.now in
    let used = c.loop-conn.used in
    let rest = take (length piece - used) (drop used piece) in
    let same = rest_taken used piece in
    let P : Type 0 = c.loop-conn.conn.core.phase ≢ phase.Closed in
    let is_open : P = c.loop-conn-test.ensures.open in (
      used-on c.loop-conn.conn c.feed_once.new.conn piece rest used c.in-Ok.more same c.loop-conn.invariant.0 c.in-Ok.ensures.on,
      took-on c.args.conn.now c.loop-conn.conn c.feed_once.new.conn piece rest used c.in-Ok.more same c.loop-conn.invariant.1 c.in-Ok.ensures.took,
      closed-by c.args.conn.now c.loop-conn.conn c.feed_once.new.conn piece rest used same c.loop-conn.invariant.1 is_open c.in-Ok.ensures.well,
      tells-then c.args.conn.now.core.log.journal c.loop-conn.conn.core.log.journal c.feed_once.new.conn.core.log.journal (g.H.Hears.heard c.args.each.now) (g.H.Hears.heard c.loop-conn.each)
          (g.H.Hears.heard c.feed_once.new.each) c.loop-conn.invariant.3 c.feed_once.ensures.tells,
    )

pub returns-in-Err-clause-tells : goal.returns-in-Err-clause-tells
returns-in-Err-clause-tells g c =
    tells-then c.args.conn.now.core.log.journal c.loop-conn.conn.core.log.journal c.feed_once.new.conn.core.log.journal (g.H.Hears.heard c.args.each.now) (g.H.Hears.heard c.loop-conn.each)
    (g.H.Hears.heard c.feed_once.new.each) c.loop-conn.invariant.3 c.feed_once.ensures.tells

pub returns-in-Err-clause-stopped : goal.returns-in-Err-clause-stopped
returns-in-Err-clause-stopped g c =
    let piece = c.args.piece.now in
    let used = c.loop-conn.used in
    let rest = take (length piece - used) (drop used piece) in
    let P : Type 0 = c.loop-conn.conn.core.phase ≢ phase.Closed in
    let is_open : P = c.loop-conn-test.ensures.open in
    stopped-by c.args.conn.now c.loop-conn.conn c.feed_once.new.conn piece rest used c.in-Err.fault (rest_taken used piece) c.loop-conn.invariant.0 c.loop-conn.invariant.1 is_open c.in-Err.ensures.fault c.in-Err.ensures.left

pub returns-clause-took : goal.returns-clause-took
returns-clause-took g c =
    let piece = c.args.piece.now in
    let used = c.loop-conn.used in
    let rest = take (length piece - used) (drop used piece) in
    let P : Type 0 = IsFed c.loop-conn.conn rest c.loop-conn.conn in
    let over : P = c.loop-conn-test.ensures.over in
    took-all c.args.conn.now c.loop-conn.conn piece rest used (rest_taken used piece) c.loop-conn.invariant.1 over
