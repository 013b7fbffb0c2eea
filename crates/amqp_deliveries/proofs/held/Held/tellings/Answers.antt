use Rattle.std.proofs.Common.{◌∙◌, cond, List, [], ap, sym, subst, filter_map}
use Rattle.std.proofs.lemmas.Result.{IfOk-weaker}
use Rattle.amqp_events.specs.Event.{Disposition}
use Rattle.amqp_events.specs.Told.{SentItem}
use Rattle.amqp_deliveries.specs.Held.{covered}
use Rattle.amqp_deliveries.specs.Span.{IsSpan, part}
use Rattle.amqp_deliveries.specs.Edits.{told_first}
use Rattle.amqp_deliveries.proofs.Spoken.{hear_tells}
use Rattle.amqp_deliveries.proofs.held.Held.tellings.Goals as goal

pub returns-then-tells : goal.returns-then-tells
returns-then-tells c =
    let d : Disposition = c.args.said.now in
    let items : List SentItem = c.self.inside.items.items in
    let R : Disposition → Type 0 = λ x. IsSpan x.first x.last c.args.self.now c.span.result in
    let r : IsSpan d.first d.last c.args.self.now c.span.result = subst R c.said.view_is c.span.ensures.span in
    let all = sym (hear_tells d c.args.self.now ∙ ap (λ b. cond b (filter_map (told_first d) (covered d.first d.last c.args.self.now)) []) (sym c.if-tells.ensures)) in
    let same = ap (λ xs. filter_map (told_first d) (part c.span.result xs)) c.self.view_is ∙ ap (filter_map (told_first d)) r.inside ∙ all in
    IfOk-weaker c.tellings.result _ _ (λ v e. e ∙ same) c.tellings.ensures

pub returns-else-tells : goal.returns-else-tells
returns-else-tells c =
    let d : Disposition = c.args.said.now in
    c.new.ensures.items ∙ sym (hear_tells d c.args.self.now ∙ ap (λ b. cond b (filter_map (told_first d) (covered d.first d.last c.args.self.now)) []) (sym c.if-tells.ensures))
