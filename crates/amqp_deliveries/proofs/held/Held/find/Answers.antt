use Rattle.std.proofs.Common.{◌∙◌, ◌<◌, ◌^◌, Some, ap, sym, option_map, arith}
use Rattle.amqp_events.specs.Told.{SentItem}
use Rattle.amqp_deliveries.specs.Span.{part}
use Rattle.amqp_deliveries.proofs.Ended.{found_covered}
use Rattle.amqp_deliveries.proofs.held.Held.find.Goals as goal

pub returns-in-None : goal.returns-in-None
returns-in-None c =
    let small : c.args.id < 2 ^ 32 = omega arith in
    ap (option_map (λ (s : SentItem). s.item)) c.in-None.ensures
    ∙ sym (found_covered c.args.id c.args.self.now (part c.span.result c.args.self.now) small c.span.ensures.held.fit c.span.ensures.span.inside)

pub returns-in-Some : goal.returns-in-Some
returns-in-Some c =
    let small : c.args.id < 2 ^ 32 = omega arith in
    ap (λ (s : SentItem). Some s.item) c.entry.view_is
    ∙ ap (option_map (λ (s : SentItem). s.item)) c.in-Some.ensures
    ∙ sym (found_covered c.args.id c.args.self.now (part c.span.result c.args.self.now) small c.span.ensures.held.fit c.span.ensures.span.inside)
