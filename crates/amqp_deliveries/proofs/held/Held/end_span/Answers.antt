use Rattle.std.proofs.Common.{List, subst, sym}
use Rattle.amqp_events.specs.Told.{SentItem}
use Rattle.amqp_deliveries.specs.Span.{IsWithin, without}
use Rattle.amqp_deliveries.proofs.Kept.{kept_as, held_left}
use Rattle.amqp_deliveries.proofs.held.Held.end_span.Goals as goal

pub invariant_of-self : goal.invariant_of-self
invariant_of-self c =
    let was : List SentItem = c.self.inside.items.items in
    let P : List SentItem → Type 0 = IsWithin c.args.span in
    kept_as c.forget.new.tags (without c.args.span was) c.cut.new.items.items c.cut.ensures
    (held_left c.args.span was (subst P (sym c.self.view_is) c.requires) c.self.invariant.0)
    c.forget.ensures
