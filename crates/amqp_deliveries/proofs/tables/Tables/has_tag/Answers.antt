use Rattle.std.proofs.Common.{◌≡◌, ◌∙◌, sym, subst}
use Rattle.std.specs.List.{list_any}
use Rattle.amqp_performatives.specs.declared.bodies.Role.{Role}
use Rattle.amqp_performatives.specs.declared.bodies.Role.TheVariants.{Sender, Receiver}
use Rattle.amqp_events.specs.Tags.{is_tagged}
use Rattle.amqp_deliveries.specs.Change.{TablesView, held_items}
use Rattle.amqp_deliveries.proofs.Items.{any_item}
use Rattle.amqp_deliveries.proofs.tables.Tables.has_tag.Goals as goal

pub returns-in-Sender : goal.returns-in-Sender
returns-in-Sender c =
    let P : Role → TablesView → Type 0 = λ r t. c.holds_tag.result ≡ list_any (is_tagged c.args.link c.args.tag.now) (held_items r t) in
    subst (λ r. P r c.args.self.now) (sym c.in-Sender.is) (subst (P Sender) c.self.view_is (c.holds_tag.ensures ∙ sym (any_item (is_tagged c.args.link c.args.tag.now) c.self.inside.sent)))

pub returns-in-Receiver : goal.returns-in-Receiver
returns-in-Receiver c =
    let P : Role → TablesView → Type 0 = λ r t. c.holds_tag-in-Receiver.result ≡ list_any (is_tagged c.args.link c.args.tag.now) (held_items r t) in
    subst (λ r. P r c.args.self.now) (sym c.in-Receiver.is) (subst (P Receiver) c.self.view_is (c.holds_tag-in-Receiver.ensures ∙ sym (any_item (is_tagged c.args.link c.args.tag.now) c.self.inside.received)))
