use Rattle.std.proofs.Common.{◌∙◌, Some, ap}
use Rattle.amqp_rules.specs.declared.reply.Taken.{Taken}
use Rattle.amqp_shared.proofs.Held.{gives-its-link}
use Rattle.amqp_shared.proofs.consumers.next_left.Goals as goal

pub returns-in-Ok-Some-Delivery : goal.returns-in-Ok-Some-Delivery
returns-in-Ok-Some-Delivery g c =
    let left = c.in-Ok-Some-Delivery in
    let of_link =
    gives-its-link c.args.link (c.lock-guard.result).conn.core left.field-0 c.pop_left_by.new.guard.conn.core
    left.name left.item (left.field-0-is ∙ ap Some left.field-0-0-is) left.ensures.gives
    in
    ap (λ (t : Taken). t.link) c.into_inner.ensures ∙ of_link
