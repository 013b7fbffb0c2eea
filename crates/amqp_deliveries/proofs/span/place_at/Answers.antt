use Rattle.std.proofs.Common.{◌≡◌, ◌<◌, ◌-◌, ◌∙◌, List, length, get_or, deque_len, ap, sym, arith, rules}
use Rattle.amqp_events.specs.Told.{SentItem}
use Rattle.amqp_deliveries.proofs.Search.{narrowed-start, narrowed-up, narrowed-down}
use Rattle.amqp_deliveries.proofs.span.place_at.Goals as goal

pub loop-low-init : goal.loop-low-init
loop-low-init c =
    let items : List SentItem = c.args.items.now.items in
    let x : SentItem = c.in-Some.last.now in
    let long : length items ≡ deque_len c.args.items.now = sym c.args.items.now.ok.0 in
    let some : 0 < length items = search (rules, long) in
    let last : x ≡ get_or items (length items - 1) x = c.in-Some.ensures.lookup ∙ ap (λ n. get_or items (n - 1) x) (sym long) in
    narrowed-start c.args.front items c.args.reach x c.saturating_sub-holes.result _ _ c.requires some last (omega arith) (omega arith) (omega arith)

pub loop-low-preserved-then-distance-reach : goal.loop-low-preserved-then-distance-reach
loop-low-preserved-then-distance-reach c =
    narrowed-up c.args.front c.args.items.now.items c.args.reach c.loop-low.low c.loop-low.high _ c.index-item.result.now c.requires c.loop-low.invariant (omega arith) (omega arith) c.index-item.ensures (omega arith)

pub loop-low-preserved : goal.loop-low-preserved
loop-low-preserved c =
    narrowed-down c.args.front c.args.items.now.items c.args.reach c.loop-low.low c.loop-low.high _ c.index-item.result.now c.requires c.loop-low.invariant (omega arith) (omega arith) c.index-item.ensures (omega arith)
