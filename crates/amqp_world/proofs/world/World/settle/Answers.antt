use Rattle.std.proofs.Common.{◌+◌, ◌*◌, arith, subst}
use Rattle.amqp_laws.specs.Past.{past}
use Rattle.amqp_pair_laws.specs.Agreeing.{on_way}
use Rattle.amqp_world.specs.declared.settling.Turn.TheVariants.{Heard}
use Rattle.amqp_world.specs.declared.side.Side.{Side}
use Rattle.amqp_world.specs.declared.side.Side.TheVariants.{A, B}
use Rattle.amqp_world.specs.AtRest.{Turned}
use Rattle.amqp_world.proofs.HeardMore.{bounded-at-first, goes-on, heard-at-first, smaller, stays}
use Rattle.amqp_world.proofs.world.World.settle.Goals as goal

pub loop-heard-init : goal.loop-heard-init
loop-heard-init c = (heard-at-first c.args.self.now, bounded-at-first c.args.self.now)

pub overflow_add-heard : goal.overflow_add-heard
overflow_add-heard c =
    let t = subst (λ (side : Side). Turned (Heard side) c.loop-heard.self c.hear_any.new.self) c.in-Heard-A.field-0-is c.in-Heard-A.ensures in
    let p = goes-on c.loop-heard.heard c.args.self.now c.loop-heard.self c.hear_any.new.self A (c.laws.ensures.ends A) c.loop-heard.invariant.0 t in
    let few = p.few-a in
    omega (arith, few)

pub loop-heard-smaller-in-Heard-A : goal.loop-heard-smaller-in-Heard-A
loop-heard-smaller-in-Heard-A c =
    let t = subst (λ (side : Side). Turned (Heard side) c.loop-heard.self c.hear_any.new.self) c.in-Heard-A.field-0-is c.in-Heard-A.ensures in
    let p = goes-on c.loop-heard.heard c.args.self.now c.loop-heard.self c.hear_any.new.self A (c.laws.ensures.ends A) c.loop-heard.invariant.0 t in
    smaller (2 * on_way (past c.args.self.now.a.journal) (past c.args.self.now.b.journal)) c.loop-heard.heard.a c.loop-heard.heard.b (c.loop-heard.heard.a + 1) (c.loop-heard.heard.b) (omega arith) p.bounded

pub loop-heard-preserved-in-Heard-A : goal.loop-heard-preserved-in-Heard-A
loop-heard-preserved-in-Heard-A c =
    let t = subst (λ (side : Side). Turned (Heard side) c.loop-heard.self c.hear_any.new.self) c.in-Heard-A.field-0-is c.in-Heard-A.ensures in
    let p = goes-on c.loop-heard.heard c.args.self.now c.loop-heard.self c.hear_any.new.self A (c.laws.ensures.ends A) c.loop-heard.invariant.0 t in
    (p.heard, p.bounded)

pub overflow_add-heard-in-Heard-B : goal.overflow_add-heard-in-Heard-B
overflow_add-heard-in-Heard-B c =
    let t = subst (λ (side : Side). Turned (Heard side) c.loop-heard.self c.hear_any.new.self) c.in-Heard-B.field-0-is c.in-Heard-B.ensures in
    let p = goes-on c.loop-heard.heard c.args.self.now c.loop-heard.self c.hear_any.new.self B (c.laws.ensures.ends A) c.loop-heard.invariant.0 t in
    let few = p.few-b in
    omega (arith, few)

pub loop-heard-smaller : goal.loop-heard-smaller
loop-heard-smaller c =
    let t = subst (λ (side : Side). Turned (Heard side) c.loop-heard.self c.hear_any.new.self) c.in-Heard-B.field-0-is c.in-Heard-B.ensures in
    let p = goes-on c.loop-heard.heard c.args.self.now c.loop-heard.self c.hear_any.new.self B (c.laws.ensures.ends A) c.loop-heard.invariant.0 t in
    smaller (2 * on_way (past c.args.self.now.a.journal) (past c.args.self.now.b.journal)) c.loop-heard.heard.a c.loop-heard.heard.b (c.loop-heard.heard.a) (c.loop-heard.heard.b + 1) (omega arith) p.bounded

pub loop-heard-preserved : goal.loop-heard-preserved
loop-heard-preserved c =
    let t = subst (λ (side : Side). Turned (Heard side) c.loop-heard.self c.hear_any.new.self) c.in-Heard-B.field-0-is c.in-Heard-B.ensures in
    let p = goes-on c.loop-heard.heard c.args.self.now c.loop-heard.self c.hear_any.new.self B (c.laws.ensures.ends A) c.loop-heard.invariant.0 t in
    (p.heard, p.bounded)

pub returns-in-Rests-clause-heard : goal.returns-in-Rests-clause-heard
returns-in-Rests-clause-heard c = stays c.loop-heard.heard c.args.self.now c.loop-heard.self c.hear_any.new.self c.loop-heard.invariant.0 c.in-Rests.ensures.0

pub returns-in-Rests-clause-bounded : goal.returns-in-Rests-clause-bounded
returns-in-Rests-clause-bounded c = c.loop-heard.invariant.1

pub returns-in-Stops-clause-heard : goal.returns-in-Stops-clause-heard
returns-in-Stops-clause-heard c = stays c.loop-heard.heard c.args.self.now c.loop-heard.self c.hear_any.new.self c.loop-heard.invariant.0 c.in-Stops.ensures.0

pub returns-in-Stops-clause-bounded : goal.returns-in-Stops-clause-bounded
returns-in-Stops-clause-bounded c = c.loop-heard.invariant.1
