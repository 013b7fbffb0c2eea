use Rattle.std.proofs.Common.{arith, rules}
use Rattle.amqp_deliveries.proofs.Search.{spread_of}
use Rattle.amqp_deliveries.proofs.Spans.{span_far, span_short, span_behind, span_past}
use Rattle.amqp_deliveries.proofs.span.span_of.Goals as goal

pub place_at-start-requires : goal.place_at-start-requires
place_at-start-requires c = spread_of c.args.items.now.items c.in-Some.item.now c.id-front.result c.id-front.ensures c.in-Some.ensures.lookup c.requires

pub place_at-end-requires : goal.place_at-end-requires
place_at-end-requires c = spread_of c.args.items.now.items c.in-Some.item.now c.id-front.result c.id-front.ensures c.in-Some.ensures.lookup c.requires

pub place_at-end-requires-then-reach-ahead : goal.place_at-end-requires-then-reach-ahead
place_at-end-requires-then-reach-ahead c = spread_of c.args.items.now.items c.in-Some.item.now c.id-front.result c.id-front.ensures c.in-Some.ensures.lookup c.requires

pub returns-then-reach-ge-HALF : goal.returns-then-reach-ge-HALF
returns-then-reach-ge-HALF c = span_far c.args.first c.args.last c.args.items.now.items (omega arith)

pub returns-then-skipped-lt-HALF : goal.returns-then-skipped-lt-HALF
returns-then-skipped-lt-HALF c =
    let s = spread_of c.args.items.now.items c.in-Some.item.now c.id-front.result c.id-front.ensures c.in-Some.ensures.lookup c.requires in
    span_past c.args.first c.args.last c.id-front.result c.place_at-start.result c.place_at-end.result c.args.items.now.items c.in-Some.item.now s (omega arith) (omega arith) (search rules) (search rules)

pub returns-then-reach-ahead : goal.returns-then-reach-ahead
returns-then-reach-ahead c =
    let s = spread_of c.args.items.now.items c.in-Some.item.now c.id-front.result c.id-front.ensures c.in-Some.ensures.lookup c.requires in
    span_behind c.args.first c.args.last c.id-front.result _ c.args.items.now.items s (omega arith) (omega arith) (omega arith) (search rules)

pub returns-else-reach-ahead : goal.returns-else-reach-ahead
returns-else-reach-ahead c =
    let s = spread_of c.args.items.now.items c.in-Some.item.now c.id-front.result c.id-front.ensures c.in-Some.ensures.lookup c.requires in
    span_short c.args.first c.args.last c.id-front.result c.args.items.now.items s (omega arith) (omega arith)
