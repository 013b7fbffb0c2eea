use Rattle.std.proofs.Common.{List}
use Rattle.std.proofs.lemmas.Result.{IfOk-weaker}
use Rattle.amqp_events.specs.Told.{SentItem}
use Rattle.amqp_events.specs.Table.{in_range}
use Rattle.amqp_deliveries.specs.Span.{part}
use Rattle.amqp_deliveries.proofs.Ended.{names_are}
use Rattle.amqp_deliveries.proofs.held.Held.named_in.Goals as goal

pub returns : goal.returns
returns c =
    let items : List SentItem = c.args.self.now in
    IfOk-weaker c.named_at.result _ _ (λ v is. names_are c.args.role items (in_range c.args.first c.args.last) (part c.span.result items) v.items c.span.ensures.held c.span.ensures.span.inside is) c.named_at.ensures
