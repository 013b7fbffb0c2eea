use Rattle.std.proofs.Common.{◌+◌, List, take, drop, subst, arith}
use Rattle.amqp_events.specs.Told.{SentItem}
use Rattle.amqp_deliveries.specs.Tags.{IsIndex}
use Rattle.amqp_deliveries.proofs.Kept.{alone, before_place}
use Rattle.amqp_deliveries.proofs.held.loops.forget.Goals as goal

pub loop-place-preserved : goal.loop-place-preserved
loop-place-preserved c =
    let items : List SentItem = c.args.items.now.items in
    let x : SentItem = c.index-item.result.now in
    let P : List SentItem → Type 0 = IsIndex c.loop-place.tags in
    c.remove.ensures (take c.args.span.start items) (drop (c.loop-place.place + 1) items)
    (alone items c.args.span.start c.loop-place.place x c.requires.held c.loop-place.auto.place (omega arith) c.index-item.ensures)
    (subst P (before_place items c.args.span.start c.loop-place.place x (omega arith) c.index-item.ensures) c.loop-place.invariant)
