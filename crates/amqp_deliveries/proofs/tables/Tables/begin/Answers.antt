use Rattle.std.proofs.Common.{◌≡◌, ◌∙◌, true, false, sym, subst}
use Rattle.std.proofs.lemmas.Result.{on_ok_weaker}
use Rattle.amqp_performatives.specs.declared.bodies.Role.{Role}
use Rattle.amqp_performatives.specs.declared.bodies.Role.TheVariants.{Sender, Receiver}
use Rattle.std.specs.List.{list_any}
use Rattle.amqp_events.specs.Event as event
use Rattle.amqp_events.specs.Event.{Item}
use Rattle.amqp_events.specs.Laws.{IsPast}
use Rattle.amqp_deliveries.specs.Change.{TablesView, held_items, is_tagged_as, tables_after}
use Rattle.amqp_deliveries.specs.declared.change.Change.TheVariants as change
use Rattle.amqp_deliveries.proofs.Both.{both, sent_alone, received_alone}
use Rattle.amqp_deliveries.proofs.Spoken.{begin_adds}
use Rattle.amqp_deliveries.proofs.Items.{any_item}
use Rattle.amqp_deliveries.proofs.tables.Tables.begin.Goals as goal

abbrev fresh_in : Item → Role → TablesView → Type 0
fresh_in item r t = list_any (is_tagged_as item) (held_items r t) ≡ false

abbrev older_in : Item → Role → TablesView → Type 0
older_in item r t = IsPast item.id (held_items r t)

pub begin-requires-clause-follows : goal.begin-requires-clause-follows
begin-requires-clause-follows c =
    subst (older_in c.args.item Sender) (sym c.self.view_is) (subst (λ r. older_in c.args.item r c.args.self.now) c.in-Sender.is c.requires.older)

pub begin-requires-clause-fresh : goal.begin-requires-clause-fresh
begin-requires-clause-fresh c =
    let h = subst (fresh_in c.args.item Sender) (sym c.self.view_is) (subst (λ r. fresh_in c.args.item r c.args.self.now) c.in-Sender.is c.requires.fresh) in
    sym (any_item (is_tagged_as c.args.item) c.self.inside.sent) ∙ h

pub begin-requires-in-Receiver-clause-follows : goal.begin-requires-in-Receiver-clause-follows
begin-requires-in-Receiver-clause-follows c =
    subst (older_in c.args.item Receiver) (sym c.self.view_is) (subst (λ r. older_in c.args.item r c.args.self.now) c.in-Receiver.is c.requires.older)

pub begin-requires-in-Receiver-clause-fresh : goal.begin-requires-in-Receiver-clause-fresh
begin-requires-in-Receiver-clause-fresh c =
    let h = subst (fresh_in c.args.item Receiver) (sym c.self.view_is) (subst (λ r. fresh_in c.args.item r c.args.self.now) c.in-Receiver.is c.requires.fresh) in
    sym (any_item (is_tagged_as c.args.item) c.self.inside.received) ∙ h

pub returns-in-Sender-clause-ok : goal.returns-in-Sender-clause-ok
returns-in-Sender-clause-ok c =
    let P : Role → TablesView → Type 0 = λ r t. both c.begin.new.self c.self.inside.received ≡ tables_after (change.Begins r c.args.item) t in
    on_ok_weaker c.begin.result
    (λ h. subst (λ r. P r c.args.self.now) (sym c.in-Sender.is) (subst (P Sender) c.self.view_is (sent_alone (event.Begins c.args.item true) c.self.inside.sent c.begin.new.self c.self.inside.received (h ∙ sym (begin_adds c.args.item c.self.inside.sent)))))
    c.begin.ensures.ok

pub returns-in-Receiver-clause-ok : goal.returns-in-Receiver-clause-ok
returns-in-Receiver-clause-ok c =
    let P : Role → TablesView → Type 0 = λ r t. both c.self.inside.sent c.begin-in-Receiver.new.self ≡ tables_after (change.Begins r c.args.item) t in
    on_ok_weaker c.begin-in-Receiver.result
    (λ h. subst (λ r. P r c.args.self.now) (sym c.in-Receiver.is) (subst (P Receiver) c.self.view_is (received_alone (event.Begins c.args.item true) c.self.inside.sent c.self.inside.received c.begin-in-Receiver.new.self (h ∙ sym (begin_adds c.args.item c.self.inside.received)))))
    c.begin-in-Receiver.ensures.ok
