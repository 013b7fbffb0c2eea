use Rattle.std.proofs.Common.{arith}
use Rattle.amqp_deliveries.proofs.Spoken.{told_more}
use Rattle.amqp_deliveries.proofs.held.loops.tellings.Goals as goal

pub loop-place-preserved : goal.loop-place-preserved
loop-place-preserved c =
    told_more c.args.said.now c.args.items.now.items c.args.span.start c.loop-place.place c.index-entry.result.now c.loop-place.told.items c.add_telling.new.told.items
    c.loop-place.auto.place (omega arith) c.index-entry.ensures c.loop-place.invariant c.in_ok-add_telling.ensures
