use Rattle.std.proofs.Common.{◌≡◌, sym, subst}
use Rattle.std.proofs.lemmas.Result.{on_ok_weaker, on_err_weaker}
use Rattle.amqp_performatives.specs.declared.bodies.Role.{Role}
use Rattle.amqp_performatives.specs.declared.bodies.Role.TheVariants.{Sender, Receiver}
use Rattle.amqp_events.specs.Event as event
use Rattle.amqp_deliveries.specs.Change.{TablesView, held_items, tables_after}
use Rattle.amqp_deliveries.specs.Held.{GivesState}
use Rattle.amqp_deliveries.specs.declared.change.Change.TheVariants as change
use Rattle.amqp_deliveries.proofs.Both.{both, sent_changed, received_changed}
use Rattle.amqp_deliveries.proofs.tables.Tables.say.Goals as goal

pub returns-in-Sender-clause-ok : goal.returns-in-Sender-clause-ok
returns-in-Sender-clause-ok c =
    let P : Role → TablesView → Type 0 = λ r t. both c.say.new.self c.self.inside.received ≡ tables_after (change.Says r c.args.said.now) t in
    on_ok_weaker c.say.result
    (λ h. subst (λ r. P r c.args.self.now) (sym c.in-Sender.is) (subst (P Sender) c.self.view_is (sent_changed (event.Says c.args.said.now) c.self.inside.sent c.say.new.self c.self.inside.received h)))
    c.say.ensures.ok

pub returns-in-Receiver-clause-ok : goal.returns-in-Receiver-clause-ok
returns-in-Receiver-clause-ok c =
    let P : Role → TablesView → Type 0 = λ r t. both c.self.inside.sent c.say-in-Receiver.new.self ≡ tables_after (change.Says r c.args.said.now) t in
    on_ok_weaker c.say-in-Receiver.result
    (λ h. subst (λ r. P r c.args.self.now) (sym c.in-Receiver.is) (subst (P Receiver) c.self.view_is (received_changed (event.Says c.args.said.now) c.self.inside.sent c.self.inside.received c.say-in-Receiver.new.self h)))
    c.say-in-Receiver.ensures.ok

pub returns-in-Sender-clause-needs : goal.returns-in-Sender-clause-needs
returns-in-Sender-clause-needs c =
    let P : Role → TablesView → Type 0 = λ r t. GivesState c.args.said.now (held_items r t) in
    on_err_weaker c.say.result (λ h. subst (λ r. P r c.args.self.now) (sym c.in-Sender.is) (subst (P Sender) c.self.view_is h)) c.say.ensures.needs

pub returns-in-Receiver-clause-needs : goal.returns-in-Receiver-clause-needs
returns-in-Receiver-clause-needs c =
    let P : Role → TablesView → Type 0 = λ r t. GivesState c.args.said.now (held_items r t) in
    on_err_weaker c.say-in-Receiver.result (λ h. subst (λ r. P r c.args.self.now) (sym c.in-Receiver.is) (subst (P Receiver) c.self.view_is h)) c.say-in-Receiver.ensures.needs
