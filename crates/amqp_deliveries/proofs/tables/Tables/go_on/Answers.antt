use Rattle.std.proofs.Common.{◌≡◌, sym, subst}
use Rattle.amqp_performatives.specs.declared.bodies.Role.{Role}
use Rattle.amqp_performatives.specs.declared.bodies.Role.TheVariants.{Sender, Receiver}
use Rattle.amqp_events.specs.Event as event
use Rattle.amqp_deliveries.specs.Change.{TablesView, tables_after}
use Rattle.amqp_deliveries.specs.declared.change.Change.TheVariants as change
use Rattle.amqp_deliveries.proofs.Both.{both, sent_alone, received_alone}
use Rattle.amqp_deliveries.proofs.tables.Tables.go_on.Goals as goal

pub returns-in-Sender : goal.returns-in-Sender
returns-in-Sender c =
    let P : Role → TablesView → Type 0 = λ r t. both c.go_on.new.self c.self.inside.received ≡ tables_after (change.Continues r c.args.id c.args.state c.args.over) t in
    subst (λ r. P r c.args.self.now) (sym c.in-Sender.is) (subst (P Sender) c.self.view_is (sent_alone (event.Continues c.args.id c.args.state c.args.over) c.self.inside.sent c.go_on.new.self c.self.inside.received c.go_on.ensures))

pub returns-in-Receiver : goal.returns-in-Receiver
returns-in-Receiver c =
    let P : Role → TablesView → Type 0 = λ r t. both c.self.inside.sent c.go_on-in-Receiver.new.self ≡ tables_after (change.Continues r c.args.id c.args.state c.args.over) t in
    subst (λ r. P r c.args.self.now) (sym c.in-Receiver.is) (subst (P Receiver) c.self.view_is (received_alone (event.Continues c.args.id c.args.state c.args.over) c.self.inside.sent c.self.inside.received c.go_on-in-Receiver.new.self c.go_on-in-Receiver.ensures))
