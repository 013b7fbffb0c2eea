use Rattle.std.proofs.Common.{arith}
use Rattle.amqp_performatives.specs.declared.composite.Composite.TheVariants as kind
use Rattle.amqp_halves.proofs.FieldRows.{later_body, this_body, no_body}
use Rattle.amqp_halves.proofs.judge.first_body.Goals as goal

pub returns-then-is_body : goal.returns-then-is_body
returns-then-is_body c a b rest l e = this_body c.args.bodies.now c.loop-composite.composite-index kind.Open a b _ c.loop-composite-test.true (c.if-is_body.ensures a b rest l e) (c.loop-composite.invariant a b rest l e)

pub loop-composite-preserved : goal.loop-composite-preserved
loop-composite-preserved c a b rest l e = later_body c.args.bodies.now c.loop-composite.composite-index kind.Open a b _ c.loop-composite-test.true (c.if-is_body.ensures a b rest l e) (c.loop-composite.invariant a b rest l e)

pub returns : goal.returns
returns c a b rest l e = no_body c.args.bodies.now c.loop-composite.composite-index a b _ (omega arith) (c.loop-composite.invariant a b rest l e)
