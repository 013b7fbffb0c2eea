use Rattle.std.proofs.Common.{◌≡◌, ◌∙◌, sym, subst}
use Rattle.amqp_performatives.specs.declared.bodies.Role.{Role}
use Rattle.amqp_performatives.specs.declared.bodies.Role.TheVariants.{Sender, Receiver}
use Rattle.amqp_deliveries.specs.Change.{TablesView, tables_after}
use Rattle.amqp_deliveries.specs.declared.change.Change.TheVariants as change
use Rattle.amqp_deliveries.proofs.Both.{both, sent_back, received_back}
use Rattle.amqp_deliveries.proofs.tables.Tables.take_back.Goals as goal

pub returns-in-Sender : goal.returns-in-Sender
returns-in-Sender c = λ before item old.
    let P : Role → TablesView → Type 0 = λ r t. t ≡ tables_after (change.Begins r item) before in
    (λ i. both (c.take_back.ensures i) c.self.inside.received)
    ∙ sent_back c.self.inside.sent c.self.inside.received before item (subst (P Sender) (sym c.self.view_is) (subst (λ r. P r c.args.self.now) c.in-Sender.is old))

pub returns-in-Receiver : goal.returns-in-Receiver
returns-in-Receiver c = λ before item old.
    let P : Role → TablesView → Type 0 = λ r t. t ≡ tables_after (change.Begins r item) before in
    (λ i. both c.self.inside.sent (c.take_back-in-Receiver.ensures i))
    ∙ received_back c.self.inside.sent c.self.inside.received before item (subst (P Receiver) (sym c.self.view_is) (subst (λ r. P r c.args.self.now) c.in-Receiver.is old))
