use Rattle.std.proofs.Common.{◌+◌, drop}
use Rattle.amqp_types.specs.View.{view, views}
use Rattle.amqp_types.proofs.Contents.{views-drop}
use Rattle.amqp_messages.proofs.FieldLaws.{null-next, null-stop}
use Rattle.amqp_messages.proofs.field.are_null.Goals as goal

pub loop-item-preserved : goal.loop-item-preserved
loop-item-preserved c =
    let e = views-drop c.args.items.now c.loop-item.item-index c.item-item.result c.loop-item-test.true c.item-item.is in
    null-next (view c.item-item.result) (views (drop (c.loop-item.item-index + 1) c.args.items.now)) (views c.args.items.now) (c.is_null.ensures.0 c.if-not-is_null.false) (rw e at c.loop-item.invariant)

pub returns-then-not-is_null : goal.returns-then-not-is_null
returns-then-not-is_null c =
    let e = views-drop c.args.items.now c.loop-item.item-index c.item-item.result c.loop-item-test.true c.item-item.is in
    (λ h. absurd cc, λ h. absurd (null-stop (view c.item-item.result) (views (drop (c.loop-item.item-index + 1) c.args.items.now)) (views c.args.items.now) (λ p. let q = c.is_null.ensures.1 p in cc) (rw e at c.loop-item.invariant) h))
