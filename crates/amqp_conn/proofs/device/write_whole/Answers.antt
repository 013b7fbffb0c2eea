use Rattle.std.proofs.Common.{◌+◌, ℕ, take, arith, subst, sym, length-drop}
use Rattle.std.specs.Io.KnownBytes.{Appends}
use Rattle.amqp_conn.proofs.Fronts.{front_at, appends_kept, appends_more}
use Rattle.amqp_conn.proofs.device.write_whole.Goals.{in-Ok, in-Err+else-ne}
use Rattle.amqp_conn.proofs.device.write_whole.Goals as goal

pub returns-in-Ok-eq0-clause-front : goal.returns-in-Ok-eq0-clause-front
returns-in-Ok-eq0-clause-front g c =
    front_at _ _ (c.loop.written + c.in-Ok-eq0.field-0) c.args.octets.now
    (appends_more _ _ _ c.loop.written c.in-Ok-eq0.field-0 c.args.octets.now c.loop.invariant.0 c.loop.invariant.1 c.in-Ok-eq0.ensures.bytes)

pub returns-then-ne-clause-front : goal.returns-then-ne-clause-front
returns-then-ne-clause-front g c =
    front_at _ _ c.loop.written c.args.octets.now (appends_kept _ _ _ (take c.loop.written c.args.octets.now) c.loop.invariant.1 c.in-Err.ensures.bytes)

pub loop-preserved : goal.loop-preserved
loop-preserved g c = elim c.match-write.branch [
  | in-Ok w ↦ (
    omega (arith, w.written-is, w.in-Ok.ensures.bound, c.loop.invariant.0, length-drop c.loop.written c.args.octets.now),
    subst (λ (n : ℕ). Appends (g.T.Write.contents c.args.device.now) (g.T.Write.contents c.write.new.self) (take n c.args.octets.now)) (sym w.written-is)
        (appends_more _ _ _ c.loop.written _ c.args.octets.now c.loop.invariant.0 c.loop.invariant.1 w.in-Ok.ensures.bytes),
  )
  | in-Err+else-ne w ↦ (
    omega (arith, w.written-is, c.loop.invariant.0),
    subst (λ (n : ℕ). Appends (g.T.Write.contents c.args.device.now) (g.T.Write.contents c.write.new.self) (take n c.args.octets.now)) (sym w.written-is)
        (appends_kept _ _ _ (take c.loop.written c.args.octets.now) c.loop.invariant.1 w.in-Err.ensures.bytes),
  )
]

pub returns-clause-front : goal.returns-clause-front
returns-clause-front g c = front_at _ _ c.loop.written c.args.octets.now c.loop.invariant.1
