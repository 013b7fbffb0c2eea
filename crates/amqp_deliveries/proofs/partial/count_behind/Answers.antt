use Rattle.std.proofs.Common.{length, ap, arith}
use Rattle.amqp_deliveries.proofs.Joins.{told-behind}
use Rattle.amqp_deliveries.proofs.partial.count_behind.Goals as goal

pub loop-part-preserved : goal.loop-part-preserved
loop-part-preserved c =
    let e = told-behind c.args.front.now c.args.rest.now c.loop-part.part-index c.part-item.result c.loop-part-test.true in
    let same = ap (length) c.part-item.is in
    omega (arith, e, same, c.len.ensures.value)
