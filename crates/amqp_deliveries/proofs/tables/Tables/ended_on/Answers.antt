use Rattle.std.proofs.Common.{◌≡◌, ◌∙◌, ◌++◌, subst}
use Rattle.amqp_deliveries.specs.Held.{items_of}
use Rattle.amqp_deliveries.specs.Change.{TablesView, ended_in}
use Rattle.amqp_deliveries.specs.declared.change.Change.TheVariants as change
use Rattle.amqp_deliveries.proofs.Ended.{link_ended}
use Rattle.amqp_deliveries.proofs.tables.Tables.ended_on.Goals as goal

pub returns : goal.returns
returns c =
    let P : TablesView → Type 0 = λ t. c.append.new.self.items ≡ ended_in (change.Leaves c.args.link) t in
    let t : TablesView = record { sent = c.self.inside.sent; received = items_of c.self.inside.received } in
    let joined : c.append.new.self.items ≡ c.in_ok-ended.ended.items ++ c.in_ok-received.received.items = c.in_ok-append.ensures.items in
    subst P c.self.view_is (joined ∙ link_ended c.args.link t c.in_ok-ended.ended.items c.in_ok-received.received.items c.in_ok-ended.ensures c.in_ok-received.ensures)
