use Rattle.std.proofs.Common.{◌≡◌, ◌+◌, ◌≤◌, length}
use Rattle.std.specs.List.{All}
use Rattle.amqp_performatives.specs.declared.state.DeliveryState.{DeliveryState}
use Rattle.amqp_deliveries.specs.Edits.{stated}
use Rattle.amqp_deliveries.specs.Span.{change_part}
use Rattle.amqp_deliveries.proofs.held.loops.keep.Given as goal

abbrev pub invariant-loop-copy : goal.invariant-loop-copy
invariant-loop-copy l = (length l.copies.items + l.place ≡ l.fn.span.end) × (l.fn.span.start ≤ l.place) × (length l.items.items ≡ length l.fn.items.items)
    × ((state : DeliveryState) → All (λ copy. copy ≡ state) l.fn.copies.items
    → All (λ copy. copy ≡ state) l.copies.items × (l.items.items ≡ change_part (record { start = l.fn.span.start; end = l.place }) (stated l.side l.tells state) l.fn.items.items))

abbrev pub decreases-loop-copy : goal.decreases-loop-copy
decreases-loop-copy l = length l.copies.items
