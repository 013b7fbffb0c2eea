use Rattle.std.proofs.Common.{List, subst}
use Rattle.amqp_events.specs.Laws.{AreInOrder}
use Rattle.amqp_events.specs.Tags.{AreApart}
use Rattle.amqp_events.specs.Told.{SentItem}
use Rattle.amqp_deliveries.specs.Held.{items_of}
use Rattle.amqp_deliveries.proofs.Items.{held_in_order, held_apart}
use Rattle.amqp_deliveries.proofs.held.Held.len.Goals as goal

pub returns-clause-in_order : goal.returns-clause-in_order
returns-clause-in_order c =
    let P : List SentItem → Type 0 = λ items. AreInOrder (items_of items) in
    subst P c.self.view_is (held_in_order c.self.inside.items.items c.self.invariant.0)

pub returns-clause-apart : goal.returns-clause-apart
returns-clause-apart c =
    let P : List SentItem → Type 0 = λ items. AreApart (items_of items) in
    subst P c.self.view_is (held_apart c.self.inside.items.items c.self.invariant.0)
