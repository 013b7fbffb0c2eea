use Rattle.std.proofs.Common.{◌<◌, ◌^◌, ◌==◌, ◌∙◌, List, arith}
use Rattle.std.proofs.lemmas.Result.{IfOk-weaker}
use Rattle.amqp_events.specs.Told.{SentItem}
use Rattle.amqp_deliveries.specs.Span.{part}
use Rattle.amqp_deliveries.proofs.Ended.{names_are, one_covered}
use Rattle.amqp_deliveries.proofs.held.Held.named_one.Goals as goal

pub returns : goal.returns
returns c =
    let items : List SentItem = c.args.self.now in
    let small : c.args.id < 2 ^ 32 = omega arith in
    IfOk-weaker c.named_at.result _ _
    (λ v is. names_are c.args.role items (λ i. i.id == c.args.id) (part c.span.result items) v.items c.span.ensures.held (c.span.ensures.span.inside ∙ one_covered c.args.id items small c.span.ensures.held.fit) is) c.named_at.ensures
