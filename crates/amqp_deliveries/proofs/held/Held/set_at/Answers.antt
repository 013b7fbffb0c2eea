use Rattle.std.proofs.Common.{List, sym, subst}
use Rattle.amqp_events.specs.Told.{SentItem}
use Rattle.amqp_deliveries.specs.Edits.{stated}
use Rattle.amqp_deliveries.specs.Span.{IsWithin, change_part}
use Rattle.amqp_deliveries.proofs.Kept.{kept_as, keys_changed, held_same, index_same}
use Rattle.amqp_deliveries.proofs.held.Held.set_at.Goals as goal

pub invariant_of-self : goal.invariant_of-self
invariant_of-self c =
    let was : List SentItem = c.self.inside.items.items in
    let now : List SentItem = change_part c.args.span (stated c.args.side c.args.tells c.args.state.now) was in
    let P : List SentItem → Type 0 = IsWithin c.args.span in
    let keys = keys_changed c.args.span c.args.side c.args.tells c.args.state.now was (subst P (sym c.self.view_is) c.requires) in
    kept_as c.self.inside.tags now c.keep.new.items.items (c.keep.ensures c.args.state.now c.in_ok-copies.ensures.same)
    (held_same was now keys c.self.invariant.0)
    (index_same c.self.inside.tags was now keys c.self.invariant.1)
