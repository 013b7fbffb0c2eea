use Rattle.std.proofs.Common.{◌∙◌, ap, rules}
use Rattle.std.proofs.lemmas.Iterator.{YieldsList-from_map, items_from_collect}
use Rattle.std.proofs.lemmas.Iterator.Consumers.{YieldsList-at, YieldsList-from_deque}
use borrow.Author.Tests.{tests}
use Rattle.amqp_events.specs.Told.{SentItem}
use Rattle.amqp_deliveries.specs.Span.{part}
use Rattle.amqp_deliveries.proofs.held.Held.ids_at.Goals as goal

pub returns : goal.returns
returns c =
    items_from_collect _ c.collect.ensures.ran
    (YieldsList-from_map _ (λ (s : SentItem). s.item.id) (YieldsList-at c.map.ensures.source (YieldsList-from_deque (part c.args.span c.args.self.now) (c.range.ensures.rest ∙ ap (part c.args.span) c.self.view_is))) c.map.ensures.closure (λ x r q k. search (rules, tests)))
