-- An offer, as formulas over the whole past and as single changes.
use Rattle.std.proofs.Common.{◌≡◌, ℕ, ◌+◌, false, Some, Ok, List, [], ◌∷◌, refl}
use Rattle.amqp_performatives.specs.declared.bodies.FlowBody.{FlowBody}
use Rattle.amqp_performatives.specs.declared.bodies.Role.{Role}
use Rattle.amqp_performatives.specs.declared.bodies.Role.TheVariants.{Sender, Receiver}
use Rattle.amqp_performatives.specs.declared.performative.Performative.TheVariants.{Flow}
use Rattle.amqp_rules.specs.declared.op.Op.TheVariants.{Offer}
use Rattle.amqp_rules.specs.declared.reply.Reply.{Reply}
use Rattle.amqp_rules.specs.declared.reply.Given.TheVariants.{Nothing}
use Rattle.amqp_rules.specs.declared.config.Config.{Config}
use Rattle.amqp_rules.specs.View.{has_number}
use Rattle.amqp_rules.specs.OnLink.{attached_as}
use Rattle.amqp_rules.specs.Sending.{reply_of, sends}
use Rattle.amqp_rules.specs.Telling.{flag, sender_flow}
use Rattle.amqp_rules.specs.Offer.{next_offer, offer_answer, offer_body, offered}
use Rattle.amqp_laws.specs.declared.entry.Entry.{Entry}
use Rattle.amqp_laws.specs.declared.entry.Step.TheVariants.{Own}
use Rattle.amqp_laws.specs.Windows.{heard_transfers}
use Rattle.amqp_laws.specs.Links.{link_pasts, is_gone, put, is_there_with}
use Rattle.amqp_laws.specs.At.{seen, sent_events}
use Rattle.amqp_rules.proofs.Accepted.{sends-ok, on-link-ok}
use Rattle.amqp_laws.proofs.Found.{some-left}
use Rattle.amqp_rules.proofs.Listed.{length-changed}
use Rattle.amqp_laws.proofs.Joining.{Changes}
use Rattle.amqp_laws.proofs.Beside.{told-changed}
use Rattle.amqp_laws.proofs.TableLaw.{table-law}
use Rattle.amqp_events.specs.Laws.{AreLearnt}
use Rattle.amqp_events.specs.Event.{Nothing as No_event}

abbrev pub offer_entry : ℕ → ℕ → FlowBody → Entry
offer_entry link available b = record { step = Own (Offer link available); reply = reply_of (Some (Flow b)) [] Nothing }

offer-changes : (link available : ℕ) (b : FlowBody) (number : ℕ) (role : Role) (name : List ℕ) (past : List Entry)
    → is_gone (record { number = number; role = role; name = name; past = past }) ≡ false
    → Changes (put (offer_entry link available b)) (offered available) (record { number = number; role = role; name = name; past = past })
offer-changes link available b number Sender name past there = record { stays = there; changed = refl }
offer-changes link available b number Receiver name past there = record { stays = there; changed = refl }

pub offer-law : (c : Config) (n : ℕ) (past : List Entry) (link available : ℕ) (reply : Reply)
    → AreLearnt (sent_events c past)
    → offer_answer (seen c n past) link available ≡ Ok reply
    → seen c (n + 1) (record { step = Own (Offer link available); reply = reply } ∷ past) ≡ next_offer (seen c n past) link available
offer-law c n past link available reply learnt h =
    let v = seen c n past in
    let o = on-link-ok v link (λ l. sends v.max_frame (attached_as Sender l []) (offer_body v.windows (offered available l)) [] Nothing) reply h in
    let s = sends-ok v.max_frame (attached_as Sender o.on []) (offer_body v.windows (offered available o.on)) [] Nothing reply o.said in
    let b = sender_flow v.windows (offered available o.on) (flag o.on.credit.drain) in
    let e = offer_entry link available b in
    let links = told-changed c past No_event (has_number link) (put e) (offered available) o.on learnt tt (λ l. refl) (λ l. refl) o.found
    (λ l there whole. offer-changes link available b l.number l.role l.name l.past there) in
    let tables = table-law c n (n + 1) past e tt in
    rw (← s.replies, links, length-changed (is_there_with (has_number link)) (put e) (link_pasts past), some-left (heard_transfers past) c.window, tables.sends, tables.receives, tables.expects) refl
